use Rattle.std.proofs.Common.{subst, sym}
use Rattle.gate_core.specs.World.{World}
use Rattle.gate_c.specs.Reached.{IsReached}
use Rattle.gate_c.proofs.session.GateSession.copy.Goals as goal

pub invariant_of-result : goal.invariant_of-result
invariant_of-result c = record {
  reached =
      subst (λ (opened : World). IsReached opened c.in_ok-copy.field-0.world) (sym c.copy-2.ensures)
      (subst (IsReached c.args.self.now.opened.value) (sym c.in_ok-copy.ensures.world) c.args.self.now.reached);
}
