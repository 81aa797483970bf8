-- What is found by going through the inputs is what the transaction conflicts with.
use Rattle.std.proofs.Common.{◌≡◌, ℕ, ◌+◌, ◌<◌, ◌≤◌, ◌==◌, Bool, false, not, ◌||◌, List, [], ◌∷◌, ◌++◌, length, take, drop, get_or, refl, sym, ap, ◌∙◌, subst, inl, inr, arith, true≢false, Option, Some, None}
use Rattle.std.specs.Prelude.{Contains, filter, slice_get, IsSome}
use Rattle.std.specs.List.{list_any}
use Rattle.std.proofs.lemmas.Bool.{or_cases, or_left, or_right, false_from_ne_true}
use Rattle.std.proofs.lemmas.Option.{none-some, slice_get_cases, get_or_from_slice_get, slice_get-get_or}
use Rattle.std.proofs.lemmas.List.{take_more, take-append-drop}
use Rattle.std.proofs.lemmas.List.Elements.{Contains-append_left, Contains-push, Contains-push_cases}
use Rattle.std.proofs.lemmas.List.Folds.{list_any_more}
use Rattle.gate_tx.specs.declared.TxIn.{TxIn}
use Rattle.gate_tx.specs.Coins.{spends}
use Rattle.gate_tx.specs.Ids.{txid_of}
use Rattle.gate_bytes.proofs.Members.{Contains-head, any_is, list_any_of, not_in_none}
use Rattle.gate_graph.proofs.Steps.{same_bool}
use Rattle.gate_pool.specs.Pool.{Admitted, spender_of}
use Rattle.gate_pool.specs.Family.{spends_one_of, AreIdsOf}
use Rattle.gate_pool.specs.Distinct.{AreDistinct}
use Rattle.gate_pool.proofs.Adding.{passed}
use Rattle.gate_pool.proofs.Entries.{find_some, find_none}
use Rattle.gate_pool.proofs.Ids.{no_more}
use Rattle.gate_pool.proofs.Walking.{Contains-filter, Contains-from_filter}
use Rattle.gate_rbf.specs.Direct.{AreThese}
use Rattle.gate_rbf.specs.Gathering.{IsPut}
use Rattle.gate_rbf.proofs.Spenders.{same_spender}

pub some_unless_none : {X : Type 0} (o : Option X) → (o ≡ None → ⊥) → IsSome o
some_unless_none None h = absurd (h refl)
some_unless_none (Some x) h = refl

-- without an input there is nothing
pub AreThese-none : (entries : List Admitted) → AreThese [] (filter (spends_one_of []) entries)
AreThese-none entries = record {
  all = λ e m. absurd (true≢false (sym (passed (spends_one_of []) entries e m)));
  only = λ e m. not_in_none e m;
}

module _ (entries : List Admitted) (items : List TxIn) (k : ℕ) (x : TxIn) (within : k < length items) (here : get_or items k x ≡ x) where
  one_more : (e : Admitted) → spends_one_of (take (k + 1) items) e ≡ (spends_one_of (take k items) e || spends e.tx.inputs x.prevout)
  one_more e = list_any_more (λ (i : TxIn). spends e.tx.inputs i.prevout) items k x within ∙ ap (λ (y : TxIn). spends_one_of (take k items) e || spends e.tx.inputs y.prevout) here

  -- the next input's outpoint is spent by an entry
  pub AreThese-more : AreDistinct entries → (e : Admitted) → spender_of entries x.prevout ≡ Some e → (found more : List Admitted) → more ≡ found ++ e ∷ []
      → AreThese found (filter (spends_one_of (take k items)) entries) → AreThese more (filter (spends_one_of (take (k + 1) items)) entries)
  AreThese-more distinct e spent found more grown are =
      let w = find_some (λ (y : Admitted). spends y.tx.inputs x.prevout) entries e spent in
      subst (λ (l : List Admitted). AreThese l (filter (spends_one_of (take (k + 1) items)) entries)) (sym grown) (record {
        all = λ y m.
            let n = Contains-from_filter (spends_one_of (take (k + 1) items)) entries y m in
            elim (or_cases (spends_one_of (take k items) y) (spends y.tx.inputs x.prevout) (sym (one_more y) ∙ passed (spends_one_of (take (k + 1) items)) entries y m)) [
              | inl old ↦ Contains-append_left found (e ∷ []) y (are.all y (Contains-filter (spends_one_of (take k items)) entries y n old))
              | inr now ↦ subst (λ (z : Admitted). Contains (found ++ e ∷ []) z) (same_spender entries distinct x.prevout e y w.0 n w.1 now) (Contains-push found e)
            ];
        only = λ y m.
            elim (Contains-push_cases found e y m) [
              | inl old ↦
                  let o = are.only y old in
                  Contains-filter (spends_one_of (take (k + 1) items)) entries y (Contains-from_filter (spends_one_of (take k items)) entries y o)
                  (one_more y ∙ or_left (spends_one_of (take k items) y) (spends y.tx.inputs x.prevout) (passed (spends_one_of (take k items)) entries y o))
              | inr same ↦ subst (λ (z : Admitted). Contains (filter (spends_one_of (take (k + 1) items)) entries) z) same
                  (Contains-filter (spends_one_of (take (k + 1) items)) entries e w.0 (one_more e ∙ or_right (spends_one_of (take k items) e) (spends e.tx.inputs x.prevout) w.1))
            ];
      })

  -- the next input's outpoint is spent by none
  pub AreThese-passed : spender_of entries x.prevout ≡ None → (found : List Admitted)
      → AreThese found (filter (spends_one_of (take k items)) entries) → AreThese found (filter (spends_one_of (take (k + 1) items)) entries)
  AreThese-passed none found are = record {
    all = λ y m.
        let n = Contains-from_filter (spends_one_of (take (k + 1) items)) entries y m in
        elim (or_cases (spends_one_of (take k items) y) (spends y.tx.inputs x.prevout) (sym (one_more y) ∙ passed (spends_one_of (take (k + 1) items)) entries y m)) [
          | inl old ↦ are.all y (Contains-filter (spends_one_of (take k items)) entries y n old)
          | inr now ↦ absurd (true≢false (sym now ∙ find_none (λ (z : Admitted). spends z.tx.inputs x.prevout) entries none y n))
        ];
    only = λ y m.
        let o = are.only y m in
        Contains-filter (spends_one_of (take (k + 1) items)) entries y (Contains-from_filter (spends_one_of (take k items)) entries y o)
        (one_more y ∙ or_left (spends_one_of (take k items) y) (spends y.tx.inputs x.prevout) (passed (spends_one_of (take k items)) entries y o));
  }

-- what is asked of these is asked of what was found
pub any_of_these : (p : Admitted → Bool) (found some : List Admitted) → AreThese found some → list_any p found ≡ list_any p some
any_of_these p found some are = same_bool _ _
    (λ h. let w = any_is p found h in list_any_of p some w.0 (are.only w.0 w.1) w.2)
    (λ h. let w = any_is p some h in list_any_of p found w.0 (are.all w.0 w.1) w.2)

-- there are some exactly where some are found
pub some_found : (test : Admitted → Bool) (entries found : List Admitted) → AreThese found (filter test entries) → not (length found == 0) ≡ list_any test entries
some_found test entries [] are =
    sym (false_from_ne_true _ (λ h. let w = any_is test entries h in not_in_none w.0 (are.all w.0 (Contains-filter test entries w.0 w.1 w.2))))
some_found test entries (e ∷ rest) are =
    let some : (length (e ∷ rest) == 0) ≡ false = grind (arith) in
    let m = are.only e (Contains-head e rest) in
    ap not some ∙ sym (list_any_of test entries e (Contains-from_filter test entries e m) (passed test entries e m))

-- the first that is found
pub first_found : (found : List Admitted) (e : Admitted) → slice_get found 0 ≡ Some e → Contains found e
first_found found e is =
    elim (slice_get_cases found 0).1 [
      | inl w ↦ (0, w.1, get_or_from_slice_get found 0 e e is)
      | inr w ↦ absurd (none-some e (sym w.1 ∙ is))
    ]

-- where there is none
pub none_found : (found : List Admitted) → slice_get found 0 ≡ None → (e : Admitted) → Contains found e → ⊥
none_found found none e m = none-some (get_or found 0 e) (sym none ∙ slice_get-get_or found 0 e (omega (arith, m.1)))

-- with the id of one entry more, ids are those of one entry more
AreIdsOf-push : (before : List Admitted) (e : Admitted) {ids more : List (List ℕ)} → IsPut ids (txid_of e.tx) more → AreIdsOf ids before → AreIdsOf more (before ++ e ∷ [])
AreIdsOf-push before e {ids} {more} put are = record {
  once = put.once are.once;
  all = λ y m.
      elim (Contains-push_cases before e y m) [
        | inl old ↦ put.keeps (txid_of y.tx) (are.all y old)
        | inr same ↦ subst (λ (z : Admitted). Contains more (txid_of z.tx)) same put.has
      ];
  only = λ id m.
      elim (put.only id m) [
        | inl old ↦ let w = are.only id old in (w.0, Contains-append_left before (e ∷ []) w.0 w.1, w.2)
        | inr same ↦ (e, Contains-push before e, sym same)
      ];
}

module _ (found : List Admitted) (k : ℕ) where
  pub AreIdsOf-next : (e : Admitted) → k < length found → get_or found k e ≡ e → {ids more : List (List ℕ)} → IsPut ids (txid_of e.tx) more → AreIdsOf ids (take k found) → AreIdsOf more (take (k + 1) found)
  AreIdsOf-next e within here {ids} {more} put are =
      subst (AreIdsOf more) (sym (take_more found k e within ∙ ap (λ (z : Admitted). take k found ++ z ∷ []) here)) (AreIdsOf-push (take k found) e put are)

  -- ids of the first that are found are no more than these
  pub ids_no_more : (ids : List (List ℕ)) (some : List Admitted) → AreThese found some → AreIdsOf ids (take k found) → length ids ≤ length some
  ids_no_more ids some these are =
      no_more (λ (id : List ℕ). id) (λ (e : Admitted). txid_of e.tx) ids some are.once (λ id m.
      let w = are.only id m in
      (w.0, these.only w.0 (subst (λ (l : List Admitted). Contains l w.0) (take-append-drop k found) (Contains-append_left (take k found) (drop k found) w.0 w.1)), w.2))

-- ids of what is found are those of these
pub AreIdsOf-these : (ids : List (List ℕ)) (found some : List Admitted) → AreThese found some → AreIdsOf ids found → AreIdsOf ids some
AreIdsOf-these ids found some these are = record {
  once = are.once;
  all = λ e m. are.all e (these.all e m);
  only = λ id m. let w = are.only id m in (w.0, these.only w.0 w.1, w.2);
}
