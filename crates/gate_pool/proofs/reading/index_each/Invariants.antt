use Rattle.std.proofs.Common.{take}
use Rattle.std.specs.Str.{bytes_eq}
use Rattle.gate_tx.specs.Coins.{point_eq}
use Rattle.indexmap.specs.IndexMap.{get}
use Rattle.gate_pool.specs.Keeping.{IsIndexed}
use Rattle.gate_pool.specs.Places.{standing}
use Rattle.gate_pool.proofs.reading.index_each.Given as goal

abbrev pub invariant-loop-slot : goal.invariant-loop-slot
invariant-loop-slot g l = IsIndexed (standing (take l.slot-index l.slots)) (get bytes_eq l.wtxids) (get point_eq l.spent)
