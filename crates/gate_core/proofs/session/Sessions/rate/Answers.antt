use Rattle.std.proofs.Common.{None, Some, sym, ap, ◌∙◌}
use Rattle.std.specs.Option.{option_copied}
use Rattle.gate_core.proofs.Peers.{rate-shown}
use Rattle.gate_core.proofs.session.Sessions.rate.Goals as goal

pub returns-in-Some : goal.returns-in-Some
returns-in-Some c = rw (← c.self.view_is) (rate-shown c.self.inside.peers.entries c.args.peer (Some c.in-Some.session.now) (sym (ap option_copied c.in-Some.is) ∙ c.get.ensures.value))

pub returns-in-None : goal.returns-in-None
returns-in-None c = rw (← c.self.view_is) (rate-shown c.self.inside.peers.entries c.args.peer None (sym (ap option_copied c.in-None.is) ∙ c.get.ensures.value))
