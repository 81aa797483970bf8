use Rattle.std.proofs.Common.{◌≡◌, take}
use Rattle.gate_pool.specs.Pool.{listing_of}
use Rattle.gate_pool.specs.Places.{standing}
use Rattle.gate_pool.proofs.reading.txids_in.Given as goal

abbrev pub invariant-loop-slot : goal.invariant-loop-slot
invariant-loop-slot l = l.txids.items ≡ listing_of (standing (take l.slot-index l.slots))
