-- What a transaction replaces, by the ids of its direct conflicts.
use Rattle.std.proofs.Common.{◌≡◌, ℕ, Bool, ◌&&◌, ◌||◌, List, [], ◌∷◌, Option, filter, refl, ap}
use Rattle.std.specs.Prelude.{Contains}
use Rattle.std.specs.List.{list_any}
use Rattle.gate_bytes.proofs.Members.{Contains-head, Contains-rest}
use Rattle.gate_tx.specs.Ids.{txid_of}
use Rattle.gate_tx.specs.Tx.{Tx}
use Rattle.gate_graph.specs.Family.{reaches}
use Rattle.gate_pool.specs.Counting.{counted_of, is_counted, replaced_beside}
use Rattle.gate_pool.specs.Distinct.{AreDistinct}
use Rattle.gate_pool.specs.Family.{AreIdsOf, all_below, is_among, is_below_some, steps}
use Rattle.gate_pool.specs.Pool.{Admitted}
use Rattle.gate_pool.proofs.Ids.{is_among_ids}

pub any_agree : {X : Type 0} (p q : X → Bool) (xs : List X) → ((x : X) → Contains xs x → p x ≡ q x) → list_any p xs ≡ list_any q xs
any_agree p q [] h = refl
any_agree p q (x ∷ xs) h = λ i. h x (Contains-head x xs) i || any_agree p q xs (λ y m. h y (Contains-rest x xs y m)) i

pub replaced_by_ids : (entries : List Admitted) (sibling : Option (List ℕ)) (tx : Tx) (ids : List (List ℕ)) → AreDistinct entries → AreIdsOf ids (counted_of entries sibling tx)
    → all_below (is_among ids) entries ≡ replaced_beside entries sibling tx
replaced_by_ids entries sibling tx ids distinct are =
    ap (λ (test : Admitted → Bool). filter test entries) (λ i e. same e i)
  where
    same : (e : Admitted) → is_below_some (is_among ids) entries e ≡ is_below_some (is_counted sibling tx) entries e
    same e =
        any_agree (λ (a : Admitted). is_among ids a && reaches (steps entries) (txid_of a.tx) (txid_of e.tx)) (λ (a : Admitted). is_counted sibling tx a && reaches (steps entries) (txid_of a.tx) (txid_of e.tx)) entries
        (λ a m. ap (λ b. b && reaches (steps entries) (txid_of a.tx) (txid_of e.tx)) (is_among_ids entries (is_counted sibling tx) ids distinct are a m))
