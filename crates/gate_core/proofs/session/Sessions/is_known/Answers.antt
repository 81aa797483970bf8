use Rattle.std.proofs.Common.{◌∙◌}
use Rattle.gate_core.proofs.Peers.{is_known-shown}
use Rattle.gate_core.proofs.session.Sessions.is_known.Goals as goal

pub returns : goal.returns
returns c = rw (← c.self.view_is) (c.contains_key.ensures ∙ is_known-shown c.self.inside.peers.entries c.args.peer)
