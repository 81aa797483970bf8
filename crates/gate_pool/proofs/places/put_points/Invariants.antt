use Rattle.std.proofs.Common.{◌≡◌, ◌≤◌, ◌+◌, cond, Some, take}
use Rattle.gate_tx.specs.Coins.{point_eq}
use Rattle.gate_tx.specs.declared.OutPoint.{OutPoint}
use Rattle.indexmap.specs.IndexMap.{get, spare}
use Rattle.gate_tx.specs.Coins.{spends}
use Rattle.gate_pool.proofs.places.put_points.Given as goal

abbrev pub invariant-loop-input : goal.invariant-loop-input
invariant-loop-input g l = record {
  put : (point : OutPoint) → get point_eq l.spent point ≡ cond (spends (take l.input-index l.inputs) point) (Some l.txid) (get point_eq l.fn.spent point);
  room : spare l.fn.spent ≤ spare l.spent + l.input-index;
}
