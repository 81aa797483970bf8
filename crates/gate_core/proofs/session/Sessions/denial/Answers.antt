use Rattle.std.proofs.Common.{Bool, not, if◌then◌else◌, None, Some, sym, ap, ◌∙◌}
use Rattle.std.specs.Option.{option_copied}
use Rattle.gate_rules.specs.declared.PeerDenial.TheVariants.{PeerClosed}
use Rattle.gate_core.proofs.Peers.{rules-shown}
use Rattle.gate_core.proofs.session.Sessions.denial.Goals as goal

pub returns-in_default : goal.returns-in_default
returns-in_default c = rw (← c.self.view_is) (rules-shown c.self.inside.peers.entries c.args.peer None (sym (ap option_copied c.in_default.is) ∙ c.get.ensures.value))

pub returns-then-session : goal.returns-then-session
returns-then-session c =
    sym (ap (λ (b : Bool). if not b then Some PeerClosed else None) c.if-session.true)
    ∙ rw (← c.self.view_is) (rules-shown c.self.inside.peers.entries c.args.peer (Some c.in-Some.session.now) (sym (ap option_copied c.in-Some.is) ∙ c.get.ensures.value))

pub returns-else-session : goal.returns-else-session
returns-else-session c =
    sym (ap (λ (b : Bool). if not b then Some PeerClosed else None) c.if-session.false)
    ∙ rw (← c.self.view_is) (rules-shown c.self.inside.peers.entries c.args.peer (Some c.in-Some.session.now) (sym (ap option_copied c.in-Some.is) ∙ c.get.ensures.value))
