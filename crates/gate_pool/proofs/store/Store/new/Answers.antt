use Rattle.std.proofs.Common.{refl, ap, [], None, length, arith}
use Rattle.std.specs.Map.{lookup}
use Rattle.std.specs.Str.{bytes_eq}
use Rattle.gate_bytes.proofs.Members.{not_in_none}
use Rattle.gate_tx.specs.Coins.{point_eq}
use Rattle.indexmap.specs.IndexMap.{get}
use Rattle.gate_pool.specs.Keeping.{entries_in}
use Rattle.gate_pool.proofs.Carrying.{IsCarried-of}
use Rattle.gate_pool.proofs.Found.{IsIndexed-none, IsIndexed-same}
use Rattle.gate_pool.proofs.Readiness.{HasPlaces-none}
use Rattle.gate_pool.proofs.Seats.{IsLog-marked, IsLog-same, before_none}
use Rattle.gate_pool.proofs.store.Store.new.Goals as goal

pub invariant_of-result : goal.invariant_of-result
invariant_of-result g c = (
  IsCarried-of c.new.result.nodes [] c.new.ensures.nodes (λ e m. not_in_none e m),
  IsIndexed-same
      (IsIndexed-none (get bytes_eq c.with_hasher.result) (get point_eq c.with_hasher-2.result) (λ k. ap (lookup (bytes_eq k)) c.with_hasher.ensures.empty) (λ k. ap (lookup (point_eq k)) c.with_hasher-2.ensures.empty))
      (ap entries_in c.new.ensures.nodes) (λ k. refl) (λ k. refl),
  HasPlaces-none,
  omega (arith, c.new-3.ensures.len, ap (λ l. length (entries_in l)) c.new.ensures.nodes),
  IsLog-same (IsLog-marked [] [] refl (IsIndexed-none (λ k. None) (λ k. None) (λ k. refl) (λ k. refl)).distinct) (ap entries_in c.new.ensures.nodes) c.new.ensures.places c.new-3.ensures.items refl,
)

pub returns-clause-entries : goal.returns-clause-entries
returns-clause-entries g c = ap entries_in c.new.ensures.nodes

pub returns-clause-before : goal.returns-clause-before
returns-clause-before g c = before_none (entries_in c.new.result.nodes) c.new.result.places c.new-3.result.items
