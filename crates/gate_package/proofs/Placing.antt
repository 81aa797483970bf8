-- The ancestors of a transaction by their ids, of which there are none, one or more.
use Rattle.std.proofs.Common.{◌≡◌, ◌≤◌, ◌<◌, ℕ, true, List, [], ◌∷◌, length, get_or, refl, sym, subst, arith}
use Rattle.std.specs.List.{AllPairs}
use Rattle.gate_tx.specs.Ids.{txid_of}
use Rattle.gate_tx.specs.Tx.{Tx}
use Rattle.gate_pool.specs.Family.{AreIdsOf}
use Rattle.gate_pool.specs.Pool.{Admitted}
use Rattle.gate_pool.proofs.Adding.{DifferById}
use Rattle.gate_pool.proofs.Ids.{ids_length}
use Rattle.gate_admit.proofs.Families.{none_are}
use Rattle.gate_admit.proofs.Kinship.{one_is}
use Rattle.gate_package.specs.Kinship.{is_outside}

pub none_by_ids : (ids : List (List ℕ)) (above : List Admitted) → length ids < 1 → AreIdsOf ids above → above ≡ []
none_by_ids [] above few are = none_are above are
none_by_ids (id ∷ ids) above few are = absurd (omega (arith, few))

pub one_by_ids : (ids : List (List ℕ)) (above : List Admitted) (id : List ℕ) → 1 ≤ length ids → length ids < 2 → id ≡ get_or ids 0 id → AllPairs DifferById above → AreIdsOf ids above
    → (p : Admitted) × (above ≡ p ∷ []) × (txid_of p.tx ≡ id)
one_by_ids [] above id some few is distinct are = absurd (omega (arith, some))
one_by_ids (x ∷ []) above id some few is distinct are = one_is above id distinct (subst (λ (y : List ℕ). AreIdsOf (y ∷ []) above) (sym is) are)
one_by_ids (x ∷ y ∷ rest) above id some few is distinct are = absurd (omega (arith, few))

pub many_outside : (entries : List Admitted) (txs : List Tx) (tx : Tx) (vsize : ℕ) (ids : List (List ℕ)) (above : List Admitted) (parents : List Tx) → 1 < length ids → AllPairs DifferById above → AreIdsOf ids above
    → is_outside entries txs tx vsize above parents ≡ true
many_outside entries txs tx vsize ids [] parents many distinct are = absurd (omega (arith, many, ids_length ids [] distinct are))
many_outside entries txs tx vsize ids (p ∷ []) parents many distinct are = absurd (omega (arith, many, ids_length ids (p ∷ []) distinct are))
many_outside entries txs tx vsize ids (p ∷ q ∷ rest) parents many distinct are = refl
