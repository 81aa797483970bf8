use Rattle.std.proofs.Common.{◌≡◌, not, take}
use Rattle.std.specs.Prelude.{filter}
use Rattle.std.specs.Str.{bytes_eq}
use Rattle.indexmap.specs.IndexSet.{contains}
use Rattle.gate_tx.specs.Ids.{txid_of}
use Rattle.gate_pool.specs.Places.{standing}
use Rattle.gate_pool.specs.Pool.{listing_of}
use Rattle.gate_pool.proofs.moves.txids_beside.Given as goal

abbrev pub invariant-loop-slot : goal.invariant-loop-slot
invariant-loop-slot g l = l.txids.items ≡ listing_of (filter (λ e. not (contains bytes_eq l.ids (txid_of e.tx))) (standing (take l.slot-index l.slots)))
