use Rattle.std.proofs.Common.{take}
use Rattle.gate_pool.specs.Family.{AreIdsOf}
use Rattle.gate_rbf.proofs.counting.ids_of.Given as goal

abbrev pub invariant-loop-rival : goal.invariant-loop-rival
invariant-loop-rival l = AreIdsOf l.ids.items (take l.rival-index l.found)
