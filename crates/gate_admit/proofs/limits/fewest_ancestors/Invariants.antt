use Rattle.std.proofs.Common.{◌≤◌, length, take}
use Rattle.std.specs.Prelude.{Contains}
use Rattle.gate_tx.specs.declared.TxIn.{TxIn}
use Rattle.gate_pool.specs.Family.{ancestors_of, ancestors_above}
use Rattle.gate_admit.proofs.limits.fewest_ancestors.Given as goal

abbrev pub invariant-loop-input : goal.invariant-loop-input
invariant-loop-input g l = record {
  least : l.fewest ≤ length (ancestors_above l.pool.entries l.inputs);
  each : (i : TxIn) → Contains (take l.input-index l.inputs) i → length (ancestors_of l.pool.entries i.prevout.txid) ≤ l.fewest;
}
