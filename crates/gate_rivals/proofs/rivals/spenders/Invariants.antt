use Rattle.std.proofs.Common.{take}
use Rattle.std.specs.Prelude.{filter}
use Rattle.gate_pool.specs.Family.{spends_one_of, AreIdsOf}
use Rattle.gate_rivals.proofs.rivals.spenders.Given as goal

abbrev pub invariant-loop-input : goal.invariant-loop-input
invariant-loop-input g l = AreIdsOf l.ids.items (filter (spends_one_of (take l.input-index l.inputs)) l.pool.entries)
