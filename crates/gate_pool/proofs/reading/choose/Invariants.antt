use Rattle.std.proofs.Common.{◌≡◌, take}
use Rattle.std.specs.Prelude.{filter}
use Rattle.std.specs.Vec.{vec_capacity}
use Rattle.gate_pool.specs.Pool.{listing_of}
use Rattle.gate_pool.specs.Places.{standing}
use Rattle.gate_pool.proofs.reading.choose.Given as goal

abbrev pub invariant-loop-slot : goal.invariant-loop-slot
invariant-loop-slot g l = record {
  items : l.chosen.items ≡ listing_of (filter (g.T.Test.chosen l.test) (standing (take l.slot-index l.slots)));
  capacity : vec_capacity l.chosen ≡ vec_capacity l.fn.chosen;
}
