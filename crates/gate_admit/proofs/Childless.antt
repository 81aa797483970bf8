-- A transaction that no entry names enters, in place of its conflicts and of a sibling: what its entry is above and below.
use Rattle.std.proofs.Common.{◌≡◌, ◌≢◌, ◌≤◌, ◌+◌, ℕ, Bool, true, false, not, List, [], ◌∷◌, Option, sym, ap, ◌∙◌, subst, refl, arith, ◌⊎◌, inl, inr, ⊎_elim}
use Rattle.std.specs.Prelude.{Contains, filter, sum_by}
use Rattle.std.specs.List.{list_any}
use Rattle.std.proofs.lemmas.Bool.{true≢false, false_from_ne_true, cond-false}
use Rattle.std.proofs.lemmas.List.Elements.{Contains-append_left, Contains-push_cases, filter-append}
use Rattle.std.proofs.lemmas.List.Sums.{sum_by-append}
use Rattle.gate_tx.specs.declared.TxIn.{TxIn}
use Rattle.gate_tx.specs.Ids.{txid_of}
use Rattle.gate_graph.specs.Family.{reaches, Leads, here, down}
use Rattle.gate_bytes.proofs.Members.{list_any_of}
use Rattle.gate_graph.proofs.Reaching.{reaches-same, reaches_trans, reaches_step, Leads_from_reaches}
use Rattle.gate_graph.proofs.Steps.{leaf_reaches}
use Rattle.gate_pool.specs.Pool.{Admitted}
use Rattle.gate_pool.specs.Counting.{is_counted, entered_beside}
use Rattle.gate_pool.specs.Family.{steps, is_below_some, without_below, ancestors_of, descendants_of, ancestors_above}
use Rattle.gate_pool.proofs.Entries.{Id, entry_step, step_entry}
use Rattle.gate_admit.proofs.Filtering.{sum_by-none, sum_by-one, sum_by-parts, sum_by-fewer}
use Rattle.gate_admit.proofs.Removing.{steps_within, reaches_within}
use Rattle.gate_admit.proofs.Staying.{stays_within}

-- no entry has its txid, and neither an entry nor it itself spends an output of it
pub record IsChildless (entries : List Admitted) (e : Admitted) : Type 0 where
  pub new : (a : Admitted) → Contains entries a → txid_of a.tx ≢ txid_of e.tx
  pub unnamed : (a : Admitted) → Contains entries a → (i : TxIn) → Contains a.tx.inputs i → i.prevout.txid ≢ txid_of e.tx
  pub own : (i : TxIn) → Contains e.tx.inputs i → i.prevout.txid ≢ txid_of e.tx

-- the entries that stay
abbrev pub left_by : List Admitted → Option (List ℕ) → Admitted → List Admitted
left_by entries sibling e = without_below (is_counted sibling e.tx) entries

-- each of them was there
pub left_within : (entries : List Admitted) (sibling : Option (List ℕ)) (e a : Admitted) → Contains (left_by entries sibling e) a → Contains entries a
left_within entries sibling e a m = stays_within (is_counted sibling e.tx) entries a m

-- ---- steps

module _ {entries : List Admitted} {e : Admitted} (sibling : Option (List ℕ)) (h : IsChildless entries e) where
  named_by : (a : Admitted) → Contains (entered_beside entries sibling e) a → (i : TxIn) → Contains a.tx.inputs i → i.prevout.txid ≢ txid_of e.tx
  named_by a m i c =
      ⊎_elim (λ (k : Contains (left_by entries sibling e) a). h.unnamed a (left_within entries sibling e a k) i c)
      (λ (same : e ≡ a). h.own i (subst (λ (x : Admitted). Contains x.tx.inputs i) (sym same) c))
      (Contains-push_cases (left_by entries sibling e) e a m)

  childless : (b : Id) → Contains (steps (entered_beside entries sibling e)) (txid_of e.tx, b) → ⊥
  childless b s = let w = step_entry (entered_beside entries sibling e) (txid_of e.tx) b s in named_by w.entry w.member w.point w.spent w.parent

  fewer : (a b : Id) → Contains (steps (left_by entries sibling e)) (a, b) → Contains (steps (entered_beside entries sibling e)) (a, b)
  fewer = steps_within (left_by entries sibling e) (entered_beside entries sibling e) (λ a m. Contains-append_left (left_by entries sibling e) (e ∷ []) a m)

  kept : (a b : Id) → Contains (steps (entered_beside entries sibling e)) (a, b) → (b ≡ txid_of e.tx → ⊥) → Contains (steps (left_by entries sibling e)) (a, b)
  kept a b s ne =
      let w = step_entry (entered_beside entries sibling e) a b s in
      ⊎_elim
      (λ (m : Contains (left_by entries sibling e) w.entry). subst (λ (z : Id). Contains (steps (left_by entries sibling e)) (z, b)) w.parent
      (subst (λ (z : Id). Contains (steps (left_by entries sibling e)) (w.point.prevout.txid, z)) w.child (entry_step (left_by entries sibling e) w.entry w.point m w.spent)))
      (λ (same : e ≡ w.entry). absurd (ne (sym w.child ∙ ap (λ (x : Admitted). txid_of x.tx) (sym same))))
      (Contains-push_cases (left_by entries sibling e) e w.entry w.member)

  -- what is reached without it was reached before
  pub reached_before : (a b : Id) → (b ≡ txid_of e.tx → ⊥) → reaches (steps (entered_beside entries sibling e)) a b ≡ true → reaches (steps entries) a b ≡ true
  reached_before a b ne r =
      reaches_within (left_by entries sibling e) entries (left_within entries sibling e) a b
      (sym (leaf_reaches (steps (entered_beside entries sibling e)) (steps (left_by entries sibling e)) (txid_of e.tx) fewer kept childless a b ne) ∙ r)

  -- nothing is below it
  from_new : {a b : Id} → Leads (steps (entered_beside entries sibling e)) a b → a ≡ txid_of e.tx → b ≡ txid_of e.tx
  from_new here k = k
  from_new (down {b = c} s l) k = absurd (childless c (subst (λ (y : Id). Contains (steps (entered_beside entries sibling e)) (y, c)) k s))

  -- the same of what is reached
  pub reached_from_new : (b : Id) → reaches (steps (entered_beside entries sibling e)) (txid_of e.tx) b ≡ true → b ≡ txid_of e.tx
  reached_from_new b r = from_new (Leads_from_reaches (steps (entered_beside entries sibling e)) (txid_of e.tx) b r) refl

  -- the last step to it is to what one of its inputs names
  last_step : (a c : Id) → Contains (steps (entered_beside entries sibling e)) (a, c) → c ≡ txid_of e.tx → (i : TxIn) × Contains e.tx.inputs i × (reaches (steps (entered_beside entries sibling e)) a i.prevout.txid ≡ true)
  last_step a c s last =
      let w = step_entry (entered_beside entries sibling e) a c s in
      let same : e ≡ w.entry = ⊎_elim (λ (m : Contains (left_by entries sibling e) w.entry). absurd (h.new w.entry (left_within entries sibling e w.entry m) (w.child ∙ last))) (λ (k : e ≡ w.entry). k) (Contains-push_cases (left_by entries sibling e) e w.entry w.member) in (
        w.point,
        subst (λ (x : Admitted). Contains x.tx.inputs w.point) (sym same) w.spent,
        subst (λ (z : Id). reaches (steps (entered_beside entries sibling e)) z w.point.prevout.txid ≡ true) w.parent (reaches-same (steps (entered_beside entries sibling e)) w.point.prevout.txid),
      )

  to_new : {a b : Id} → Leads (steps (entered_beside entries sibling e)) a b → b ≡ txid_of e.tx → (a ≡ txid_of e.tx) ⊎ ((i : TxIn) × Contains e.tx.inputs i × (reaches (steps (entered_beside entries sibling e)) a i.prevout.txid ≡ true))
  to_new here k = inl k
  to_new (down {a = a} {b = c} s l) k =
      ⊎_elim (λ last. inr (last_step a c s last))
      (λ w. inr (w.0, w.1, reaches_trans (steps (entered_beside entries sibling e)) a c w.0.prevout.txid (reaches_step (steps (entered_beside entries sibling e)) a c s) w.2))
      (to_new l k)

  -- what is above it was above what its inputs name
  pub above_new : (a : Admitted) → Contains entries a → reaches (steps (entered_beside entries sibling e)) (txid_of a.tx) (txid_of e.tx) ≡ true
      → list_any (λ (i : TxIn). reaches (steps entries) (txid_of a.tx) i.prevout.txid) e.tx.inputs ≡ true
  above_new a m r =
      ⊎_elim (λ (same : txid_of a.tx ≡ txid_of e.tx). absurd (h.new a m same))
      (λ w. list_any_of (λ (i : TxIn). reaches (steps entries) (txid_of a.tx) i.prevout.txid) e.tx.inputs w.0 w.1 (reached_before (txid_of a.tx) w.0.prevout.txid (h.own w.0 w.1) w.2))
      (to_new (Leads_from_reaches (steps (entered_beside entries sibling e)) (txid_of a.tx) (txid_of e.tx) r) refl)

-- ---- sums over families

sum_entered : (f : Admitted → ℕ) (p : Admitted → Bool) (entries : List Admitted) (sibling : Option (List ℕ)) (e : Admitted) → sum_by f (filter p (entered_beside entries sibling e)) ≡ sum_by f (filter p (left_by entries sibling e)) + sum_by f (filter p (e ∷ []))
sum_entered f p entries sibling e = ap (sum_by f) (filter-append p (left_by entries sibling e) (e ∷ [])) ∙ sum_by-append f (filter p (left_by entries sibling e)) (filter p (e ∷ []))

module _ {entries : List Admitted} {e : Admitted} (sibling : Option (List ℕ)) (h : IsChildless entries e) (f : Admitted → ℕ) where
  -- its ancestors are those of what its inputs name, and it itself
  pub sum_above_new : sum_by f (ancestors_of (entered_beside entries sibling e) (txid_of e.tx)) ≤ sum_by f (ancestors_above entries e.tx.inputs) + f e
  sum_above_new =
      omega (
        arith,
        sum_entered f (λ (a : Admitted). reaches (steps (entered_beside entries sibling e)) (txid_of a.tx) (txid_of e.tx)) entries sibling e,
        sum_by-one f (λ (a : Admitted). reaches (steps (entered_beside entries sibling e)) (txid_of a.tx) (txid_of e.tx)) e,
        sum_by-fewer f (λ (a : Admitted). reaches (steps (entered_beside entries sibling e)) (txid_of a.tx) (txid_of e.tx)) (λ (a : Admitted). not (is_below_some (is_counted sibling e.tx) entries a))
            (λ (a : Admitted). list_any (λ (i : TxIn). reaches (steps entries) (txid_of a.tx) i.prevout.txid) e.tx.inputs) entries (above_new sibling h),
      )

  -- its only descendant is it itself
  pub sum_below_new : sum_by f (descendants_of (entered_beside entries sibling e) (txid_of e.tx)) ≤ f e
  sum_below_new =
      omega (
        arith,
        sum_entered f (λ (a : Admitted). reaches (steps (entered_beside entries sibling e)) (txid_of e.tx) (txid_of a.tx)) entries sibling e,
        sum_by-one f (λ (a : Admitted). reaches (steps (entered_beside entries sibling e)) (txid_of e.tx) (txid_of a.tx)) e,
        sum_by-none f (λ (a : Admitted). reaches (steps (entered_beside entries sibling e)) (txid_of e.tx) (txid_of a.tx)) (left_by entries sibling e)
            (λ a m. false_from_ne_true _ (λ r. h.new a (left_within entries sibling e a m) (reached_from_new sibling h (txid_of a.tx) r))),
      )

  -- the ancestors of another were its ancestors
  pub sum_above_old : (b : Id) → (b ≡ txid_of e.tx → ⊥) → sum_by f (ancestors_of (entered_beside entries sibling e) b) ≤ sum_by f (ancestors_of entries b)
  sum_above_old b ne =
      omega (
        arith,
        sum_entered f (λ (a : Admitted). reaches (steps (entered_beside entries sibling e)) (txid_of a.tx) b) entries sibling e,
        ap (sum_by f) (cond-false (reaches (steps (entered_beside entries sibling e)) (txid_of e.tx) b) (e ∷ []) [] (false_from_ne_true _ (λ r. ne (reached_from_new sibling h b r)))),
        sum_by-fewer f (λ (a : Admitted). reaches (steps (entered_beside entries sibling e)) (txid_of a.tx) b) (λ (a : Admitted). not (is_below_some (is_counted sibling e.tx) entries a))
            (λ (a : Admitted). reaches (steps entries) (txid_of a.tx) b) entries (λ a m r. reached_before sibling h (txid_of a.tx) b ne r),
      )

  -- the descendants of another that stay, with a part that goes, were its descendants
  pub sum_below_left : (b : Id) (d : Admitted → Bool) → ((a : Admitted) → Contains entries a → d a ≡ true → reaches (steps entries) b (txid_of a.tx) ≡ true)
      → ((a : Admitted) → Contains entries a → d a ≡ true → is_below_some (is_counted sibling e.tx) entries a ≡ true)
      → sum_by f (filter (λ (a : Admitted). reaches (steps (entered_beside entries sibling e)) b (txid_of a.tx)) (left_by entries sibling e)) + sum_by f (filter d entries) ≤ sum_by f (descendants_of entries b)
  sum_below_left b d under goes =
      sum_by-parts f (λ (a : Admitted). reaches (steps (entered_beside entries sibling e)) b (txid_of a.tx)) (λ (a : Admitted). not (is_below_some (is_counted sibling e.tx) entries a)) d
      (λ (a : Admitted). reaches (steps entries) b (txid_of a.tx)) entries
      (λ a m r. reached_before sibling h b (txid_of a.tx) (h.new a m) r) under (λ a m t. ap not (goes a m t))

  -- its descendants are these, and the new entry or not
  pub sum_below_old : (b : Id) (d : Admitted → Bool) → ((a : Admitted) → Contains entries a → d a ≡ true → reaches (steps entries) b (txid_of a.tx) ≡ true)
      → ((a : Admitted) → Contains entries a → d a ≡ true → is_below_some (is_counted sibling e.tx) entries a ≡ true)
      → sum_by f (descendants_of (entered_beside entries sibling e) b) + sum_by f (filter d entries) ≤ sum_by f (descendants_of entries b) + f e
  sum_below_old b d under goes =
      omega (
        arith,
        sum_entered f (λ (a : Admitted). reaches (steps (entered_beside entries sibling e)) b (txid_of a.tx)) entries sibling e,
        sum_by-one f (λ (a : Admitted). reaches (steps (entered_beside entries sibling e)) b (txid_of a.tx)) e,
        sum_below_left b d under goes,
      )

  -- where the new entry is not below it, these alone
  pub sum_below_apart : (b : Id) → reaches (steps (entered_beside entries sibling e)) b (txid_of e.tx) ≡ false → sum_by f (descendants_of (entered_beside entries sibling e) b) ≤ sum_by f (descendants_of entries b)
  sum_below_apart b apart =
      omega (
        arith,
        sum_entered f (λ (a : Admitted). reaches (steps (entered_beside entries sibling e)) b (txid_of a.tx)) entries sibling e,
        ap (sum_by f) (cond-false (reaches (steps (entered_beside entries sibling e)) b (txid_of e.tx)) (e ∷ []) [] apart),
        sum_below_left b (λ (a : Admitted). false) (λ a m t. absurd (true≢false (sym t))) (λ a m t. absurd (true≢false (sym t))),
      )
