use Rattle.std.proofs.Common.{subst, sym}
use Rattle.gate_core.specs.World.{World}
use Rattle.gate_c.specs.Reached.{IsReached}
use Rattle.gate_c.proofs.session.GateSession.open.Goals as goal

pub invariant_of-result : goal.invariant_of-result
invariant_of-result c = record {
  reached =
      subst (λ (w : World). IsReached w c.new-2.result.world) (sym c.of-opened.ensures)
      (subst (IsReached c.in_ok-state.state) (sym c.new-2.ensures.world) c.in_ok-state.ensures.reached);
}
