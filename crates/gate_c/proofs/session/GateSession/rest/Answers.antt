use Rattle.std.proofs.Common.{subst, sym}
use Rattle.gate_c.specs.Reached.{IsReached}
use Rattle.gate_c.proofs.session.GateSession.rest.Goals as goal

pub invariant_of-self : goal.invariant_of-self
invariant_of-self c = record { reached = subst (IsReached c.args.self.now.opened.value) (sym c.rest.ensures.world) c.args.self.now.reached }
