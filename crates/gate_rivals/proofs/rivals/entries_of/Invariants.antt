use Rattle.std.proofs.Common.{◌≡◌, Bool, take}
use Rattle.std.specs.Prelude.{filter}
use Rattle.gate_pool.specs.Pool.{Admitted, listing_of}
use Rattle.gate_rivals.proofs.rivals.entries_of.Given as goal

abbrev pub invariant-loop-id : goal.invariant-loop-id
invariant-loop-id g l = (test : Admitted → Bool) → l.ids ≡ listing_of (filter test l.pool.entries) → l.found.items ≡ take l.id-index (filter test l.pool.entries)
