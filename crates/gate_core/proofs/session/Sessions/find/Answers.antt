use Rattle.std.proofs.Common.{sym, ap, ◌∙◌}
use Rattle.std.specs.Option.{option_copied}
use Rattle.gate_core.proofs.Peers.{session_of-shown}
use Rattle.gate_core.proofs.session.Sessions.find.Goals as goal

pub returns-in-Some : goal.returns-in-Some
returns-in-Some c = rw (← c.self.view_is) ((sym (ap option_copied c.in-Some.is) ∙ c.get.ensures.value) ∙ sym (session_of-shown c.self.inside.peers.entries c.args.peer))

pub returns-in-None : goal.returns-in-None
returns-in-None c = rw (← c.self.view_is) ((sym (ap option_copied c.in-None.is) ∙ c.get.ensures.value) ∙ sym (session_of-shown c.self.inside.peers.entries c.args.peer))
