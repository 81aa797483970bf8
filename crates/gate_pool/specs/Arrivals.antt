-- When entries were admitted, and the order in which a heap gives them out.
use Rattle.std.specs.Prelude.{◌≡◌, ◌<◌, ℕ, Bool, List, ◌∷◌, Contains, ◌==◌}
use Rattle.std.specs.List.Sorted.{IsPermutation}
use Rattle.std.specs.declared.cmp.Ordering.{Ordering}
use Rattle.std.specs.Ordering.{nat_cmp, is_eq}
use Rattle.std.specs.Cmp.{IsTotalOrder, IsEquivalence}
use Rattle.std.proofs.Common.{arith, sym, subst}
use Rattle.std.proofs.lemmas.Bool.Decides.{nat_tests}
use Rattle.std.proofs.lemmas.Cmp.{nat_cmp_total, eq_by_cmp_equiv, on_total, back_total}
use Rattle.gate_tx.specs.Ids.{txid_of}
use Rattle.gate_pool.specs.Pool.{Admitted}
use Rattle.gate_pool.specs.declared.arrivals.Arrival.{Arrival}

-- arrivals, in whatever order, and for how many more there is room
pub record Arrived : Type 0 where
  pub list : List Arrival
  pub room : ℕ

abbrev pub arrival_of : Admitted → Arrival
arrival_of e = record { time = e.time; txid = txid_of e.tx }

-- each entry's arrival is there; those of entries that have left may be there too
pub record HaveArrived (entries : List Admitted) (list : List Arrival) : Type 0 where
  pub all : (e : Admitted) → Contains entries e → Contains list (arrival_of e)

-- an arrival before a second was taken out, that of this id
pub record IsTaken (time : ℕ) (before : List Arrival) (txid : List ℕ) (after : List Arrival) : Type 0 where
  pub arrival : Arrival
  pub rest : IsPermutation before (arrival ∷ after)
  pub is : arrival.txid ≡ txid
  pub early : arrival.time < time

-- the earlier of two arrivals is the greater, so that it is the first of a heap
abbrev pub arrival_cmp : Arrival → Arrival → Ordering
arrival_cmp a b = nat_cmp b.time a.time

abbrev pub arrival_eq : Arrival → Arrival → Bool
arrival_eq a b = b.time == a.time

pub arrival_cmp_total : IsTotalOrder arrival_cmp
arrival_cmp_total = on_total (λ (a : Arrival). a.time) (back_total nat_cmp_total)

same : (x y : ℕ) → (x == y) ≡ is_eq (nat_cmp x y)
same x y = grind (arith, nat_tests)

pub arrival_eq_is : (a b : Arrival) → arrival_eq a b ≡ is_eq (arrival_cmp a b)
arrival_eq_is a b = same b.time a.time

pub arrival_eq_equiv : IsEquivalence arrival_eq
arrival_eq_equiv = subst IsEquivalence (λ i a b. sym (arrival_eq_is a b) i) (eq_by_cmp_equiv arrival_cmp_total)
