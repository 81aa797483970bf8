use Rattle.std.proofs.Common.{take}
use Rattle.std.specs.Prelude.{filter}
use Rattle.gate_pool.specs.Family.{spends_one_of}
use Rattle.gate_rbf.specs.Direct.{AreThese}
use Rattle.gate_rbf.proofs.direct.find_rivals.Given as goal

abbrev pub invariant-loop-input : goal.invariant-loop-input
invariant-loop-input g l = AreThese l.found.items (filter (spends_one_of (take l.input-index l.input-items)) l.pool.entries)
