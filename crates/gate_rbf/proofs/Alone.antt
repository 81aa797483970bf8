-- The only entry that passes a test.
use Rattle.std.proofs.Common.{◌≡◌, ℕ, Bool, true, false, cond, not, ◌&&◌, List, [], ◌∷◌, refl, sym, ap, ◌∙◌, subst, ◌⊎◌, inl, inr, true≢false}
use Rattle.std.specs.Prelude.{Contains, filter, ◌≢◌}
use Rattle.std.specs.List.{list_any, AllPairs}
use Rattle.std.specs.Cmp.Lexicographic.{bytes_decides}
use Rattle.std.proofs.lemmas.Bool.{and_parts, and_from, false_from_ne_true, cases_Bool}
use Rattle.std.proofs.lemmas.List.Elements.{filter_agree}
use Rattle.gate_tx.specs.Ids.{txid_of}
use Rattle.gate_bytes.proofs.Members.{Contains-cons_cases, Contains-head, Contains-rest, any_is, list_any_of, not_in_none}
use Rattle.gate_graph.proofs.Steps.{same_bool}
use Rattle.gate_graph.specs.Family.{reaches}
use Rattle.gate_pool.specs.Pool.{Admitted, has_txid}
use Rattle.gate_pool.specs.Family.{steps, all_below, is_below_some, descendants_of}
use Rattle.gate_pool.specs.Distinct.{AreDistinct}
use Rattle.gate_pool.proofs.Adding.{DifferById, pairs_head, pairs_tail, passed, same_kept}
use Rattle.gate_pool.proofs.Walking.{Contains-from_filter, Contains-filter}
use Rattle.gate_pool.proofs.Ids.{same_entry}

-- where none passes, none is kept
pub none_kept : {X : Type 0} (p : X → Bool) (xs : List X) → ((x : X) → Contains xs x → p x ≡ false) → filter p xs ≡ []
none_kept p [] h = refl
none_kept {X} p (x ∷ xs) h = ap (λ b. cond b (x ∷ filter p xs) (filter p xs)) (h x (Contains-head x xs)) ∙ none_kept p xs (λ y m. h y (Contains-rest x xs y m))

-- a list whose items differ keeps one of them
filter_one : {X : Type 0} (p : X → Bool) (R : X → X → Type 0) (xs : List X) (x : X) → ((y : X) → R y x → p y ≡ true → ⊥) → ((y : X) → R x y → p y ≡ true → ⊥) → AllPairs R xs → Contains xs x → p x ≡ true → filter p xs ≡ x ∷ []
filter_one p R [] x before after apart m h = not_in_none x m
filter_one {X} p R (y ∷ xs) x before after apart m h = go (λ n. filter_one p R xs x before after (pairs_tail R y xs apart) n h) (Contains-cons_cases y xs x m)
  where
    go : (Contains xs x → filter p xs ≡ x ∷ []) → (y ≡ x) ⊎ Contains xs x → filter p (y ∷ xs) ≡ x ∷ []
    go rest (inl same) = ap (λ b. cond b (y ∷ filter p xs) (filter p xs)) (ap p same ∙ h)
        ∙ ap (λ l. y ∷ l) (none_kept p xs (λ z n. false_from_ne_true _ (λ t. after z (subst (λ w. R w z) same (pairs_head R y xs apart z n)) t)))
        ∙ ap (λ w. w ∷ []) same
    go rest (inr n) = ap (λ b. cond b (y ∷ filter p xs) (filter p xs)) (false_from_ne_true _ (λ t. before y (pairs_head R y xs apart x n) t)) ∙ rest n

-- where all that pass have the id of one, that is all
pub alone : (test : Admitted → Bool) (entries : List Admitted) → AreDistinct entries → (c : Admitted) (txid : List ℕ) → Contains (filter test entries) c → txid_of c.tx ≡ txid
    → list_any (λ (e : Admitted). test e && not (has_txid e txid)) entries ≡ false → filter test entries ≡ c ∷ []
alone test entries distinct c txid m is none =
    let member = Contains-from_filter test entries c m in
    same_kept test (λ (e : Admitted). has_txid e txid) entries (λ e n. same_bool _ _
    (λ t. elim (cases_Bool (has_txid e txid)) [
      | inl h ↦ h
      | inr h ↦ absurd (true≢false (sym (list_any_of (λ (e : Admitted). test e && not (has_txid e txid)) entries e n (and_from _ _ t (ap not h))) ∙ none))
    ])
    (λ h. ap test (same_entry entries distinct e c n member ((bytes_decides (txid_of e.tx) txid).0 h ∙ sym is)) ∙ passed test entries c m))
    ∙ filter_one (λ (e : Admitted). has_txid e txid) DifferById entries c
    (λ y r h. r ((bytes_decides (txid_of y.tx) txid).0 h ∙ sym is))
    (λ y r h. r (is ∙ sym ((bytes_decides (txid_of y.tx) txid).0 h)))
    distinct.txids member ((bytes_decides (txid_of c.tx) txid).1 is)

-- where none passes, no one is alone
pub none_alone : (test : Admitted → Bool) (entries : List Admitted) → list_any test entries ≡ false → (c : Admitted) → filter test entries ≢ c ∷ []
none_alone test entries none c one =
    let m : Contains (filter test entries) c = subst (λ l. Contains l c) (sym one) (Contains-head c []) in
    true≢false (sym (list_any_of test entries c (Contains-from_filter test entries c m) (passed test entries c m)) ∙ none)

-- where one has another id, it is not alone
pub not_alone : (test : Admitted → Bool) (entries : List Admitted) (d : Admitted) (txid : List ℕ) → Contains (filter test entries) d → txid_of d.tx ≡ txid
    → list_any (λ (e : Admitted). test e && not (has_txid e txid)) entries ≡ true → (c : Admitted) → filter test entries ≢ c ∷ []
not_alone test entries d txid m is other c one =
    let w = any_is (λ (e : Admitted). test e && not (has_txid e txid)) entries other in
    let t = and_parts _ _ w.2 in
    let first : c ≡ d = only d m in
    let second : c ≡ w.0 = only w.0 (Contains-filter test entries w.0 w.1 t.0) in
    let has : has_txid w.0 txid ≡ true = (bytes_decides (txid_of w.0.tx) txid).1 (ap (λ (e : Admitted). txid_of e.tx) (sym second ∙ first) ∙ is) in
    true≢false (sym t.1 ∙ ap not has)
  where
    only : (e : Admitted) → Contains (filter test entries) e → c ≡ e
    only e n = elim (Contains-cons_cases c [] e (subst (λ l. Contains l e) one n)) [ inl same ↦ same | inr k ↦ not_in_none e k ]

-- what is below the only one is below those that pass
pub below_alone : (test : Admitted → Bool) (entries : List Admitted) (c : Admitted) → filter test entries ≡ c ∷ [] → all_below test entries ≡ descendants_of entries (txid_of c.tx)
below_alone test entries c one =
    filter_agree (is_below_some test entries) (λ e. reaches (steps entries) (txid_of c.tx) (txid_of e.tx)) (λ e. same_bool _ _ (below e) (above e)) entries
  where
    there : Contains (filter test entries) c
    there = subst (λ l. Contains l c) (sym one) (Contains-head c [])

    below : (e : Admitted) → is_below_some test entries e ≡ true → reaches (steps entries) (txid_of c.tx) (txid_of e.tx) ≡ true
    below e h =
        let w = any_is (λ a. test a && reaches (steps entries) (txid_of a.tx) (txid_of e.tx)) entries h in
        let p = and_parts _ _ w.2 in
        elim (Contains-cons_cases c [] w.0 (subst (λ l. Contains l w.0) one (Contains-filter test entries w.0 w.1 p.0))) [
          | inl same ↦ subst (λ (a : Admitted). reaches (steps entries) (txid_of a.tx) (txid_of e.tx) ≡ true) (sym same) p.1
          | inr none ↦ not_in_none w.0 none
        ]

    above : (e : Admitted) → reaches (steps entries) (txid_of c.tx) (txid_of e.tx) ≡ true → is_below_some test entries e ≡ true
    above e r = list_any_of (λ a. test a && reaches (steps entries) (txid_of a.tx) (txid_of e.tx)) entries c (Contains-from_filter test entries c there) (and_from _ _ (passed test entries c there) r)
