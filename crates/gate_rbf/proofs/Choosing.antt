-- What is asked of chosen entries is asked of all, with the choice.
use Rattle.std.proofs.Common.{◌≡◌, ℕ, Bool, ◌&&◌, List, ap, ◌∙◌, sym}
use Rattle.std.specs.Prelude.{Contains, filter}
use Rattle.std.specs.List.{list_any}
use Rattle.std.specs.Str.{bytes_eq}
use Rattle.std.specs.Cmp.Lexicographic.{bytes_decides}
use Rattle.gate_tx.specs.Ids.{txid_of}
use Rattle.std.proofs.lemmas.Bool.{and_parts, and_from}
use Rattle.gate_bytes.proofs.Members.{any_is, list_any_of}
use Rattle.gate_graph.proofs.Steps.{same_bool}
use Rattle.gate_pool.specs.Pool.{Admitted, has_txid}
use Rattle.gate_pool.specs.Family.{is_among, AreIdsOf}
use Rattle.gate_pool.specs.Distinct.{AreDistinct}
use Rattle.gate_pool.proofs.Walking.{Contains-filter, Contains-from_filter}
use Rattle.gate_pool.proofs.Adding.{passed}
use Rattle.gate_pool.proofs.Ids.{is_among_ids}
use Rattle.gate_rbf.proofs.Conflicting.{list_any-agree}

module _ {X : Type 0} (p : X → Bool) where
  pub any_filter : (test : X → Bool) (xs : List X) → list_any p (filter test xs) ≡ list_any (λ x. test x && p x) xs
  any_filter test xs = same_bool _ _
      (λ h.
      let w = any_is p (filter test xs) h in
      list_any_of (λ x. test x && p x) xs w.0 (Contains-from_filter test xs w.0 w.1) (and_from _ _ (passed test xs w.0 w.1) w.2))
      (λ h.
      let w = any_is (λ x. test x && p x) xs h in
      let t = and_parts _ _ w.2 in
      list_any_of p (filter test xs) w.0 (Contains-filter test xs w.0 w.1 t.0) t.1)

  -- tests that agree on what a list has find the same
  pub any_agree_on : (q : X → Bool) (xs : List X) → ((x : X) → Contains xs x → p x ≡ q x) → list_any p xs ≡ list_any q xs
  any_agree_on q xs h = same_bool _ _
      (λ t. let w = any_is p xs t in list_any_of q xs w.0 w.1 (sym (h w.0 w.1) ∙ w.2))
      (λ t. let w = any_is q xs t in list_any_of p xs w.0 w.1 (h w.0 w.1 ∙ w.2))

-- what is asked of the entries of some ids
pub any_among : (p : Admitted → Bool) (entries : List Admitted) (test : Admitted → Bool) (ids : List (List ℕ)) → AreDistinct entries → AreIdsOf ids (filter test entries)
    → list_any (λ e. is_among ids e && p e) entries ≡ list_any p (filter test entries)
any_among p entries test ids distinct are =
    any_agree_on (λ e. is_among ids e && p e) (λ e. test e && p e) entries (λ e m. ap (λ b. b && p e) (is_among_ids entries test ids distinct are e m)) ∙ sym (any_filter p test entries)

-- the same with the choice behind
pub any_among_last : (p : Admitted → Bool) (entries : List Admitted) (test : Admitted → Bool) (ids : List (List ℕ)) → AreDistinct entries → AreIdsOf ids (filter test entries)
    → list_any (λ e. p e && is_among ids e) entries ≡ list_any p (filter test entries)
any_among_last p entries test ids distinct are =
    any_agree_on (λ e. p e && is_among ids e) (λ e. is_among ids e && p e) entries (λ e m. and-swap (p e) (is_among ids e)) ∙ any_among p entries test ids distinct are
  where
    and-swap : (a b : Bool) → (a && b) ≡ (b && a)
    and-swap a b = same_bool _ _ (λ h. let t = and_parts a b h in and_from _ _ t.1 t.0) (λ h. let t = and_parts b a h in and_from _ _ t.1 t.0)

-- an id is in a list exactly where the entry that has it is among those of the list
pub listed : (ids : List (List ℕ)) (e : Admitted) (txid : List ℕ) → txid ≡ txid_of e.tx → list_any (λ y. bytes_eq y txid) ids ≡ is_among ids e
listed ids e txid is = list_any-agree (λ y. bytes_eq y txid) (has_txid e) (λ y. ap (bytes_eq y) is ∙ swap y (txid_of e.tx)) ids
  where
    swap : (a b : List ℕ) → bytes_eq a b ≡ bytes_eq b a
    swap a b = same_bool _ _ (λ h. (bytes_decides b a).1 (sym ((bytes_decides a b).0 h))) (λ h. (bytes_decides a b).1 (sym ((bytes_decides b a).0 h)))
