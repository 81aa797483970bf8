-- Families are within their limits once a transaction entered that was tried again.
use Rattle.std.proofs.Common.{◌≡◌, ◌≤◌, ℕ, Bool, true, false, not, List, [], ◌∷◌, ◌++◌, get_or, length, Some, Ok, sym, ap, ◌∙◌, subst, arith, ◌⊎◌, inl, inr, ⊎_elim, cond}
use Rattle.std.specs.Prelude.{Contains, filter, sum_by, nat_le}
use Rattle.std.specs.List.{All, list_all}
use Rattle.std.proofs.lemmas.Bool.{true≢false, false_from_ne_true, and_parts, cases_Bool, leb-true}
use Rattle.std.proofs.lemmas.List.Elements.{All-contains, Contains-append_left, Contains-push, Contains-push_cases, Contains-get_or, filter-append}
use Rattle.std.proofs.lemmas.List.Sums.{sum_by-append, sum_by-cons}
use Rattle.gate_bytes.specs.Order.{first_failing}
use Rattle.gate_graph.specs.Family.{reaches, Leads, here, down}
use Rattle.gate_graph.proofs.Reaching.{reaches-same, reaches_step, reaches_trans, reaches_from_Leads, Leads_from_reaches, Leads_more}
use Rattle.gate_tx.specs.Ids.{txid_of}
use Rattle.gate_tx.specs.Tx.{Tx}
use Rattle.gate_pool.specs.Pool.{Admitted, size_of}
use Rattle.gate_pool.specs.Family.{steps, is_below_some, is_conflict, without_below, ancestors_of, descendants_of, entered}
use Rattle.gate_pool.proofs.Entries.{Id, entry_step, step_entry}
use Rattle.gate_pool.proofs.Walking.{Contains-filter}
use Rattle.gate_admit.specs.declared.attempt.Attempt.TheVariants.{Again}
use Rattle.gate_admit.specs.declared.grant.Grant.{Grant}
use Rattle.gate_admit.specs.Good.{IsLimited}
use Rattle.gate_admit.specs.Policies.{Policy, most_ancestors, most_descendants, most_descendants_size}
use Rattle.gate_admit.specs.Limits.{is_limited, fits_again, limit_rules}
use Rattle.gate_admit.specs.Rules.{admission_rules, decision_of, grant_of}
use Rattle.gate_admit.specs.Standing.{Standing}
use Rattle.gate_admit.specs.Submission.{admitted}
use Rattle.gate_admit.proofs.Filtering.{length_ones, list_all_of, sum_by-fewer}
use Rattle.gate_admit.proofs.Granted.{granted}
use Rattle.gate_admit.proofs.Passing.{Passes, passes}
use Rattle.gate_admit.proofs.Staying.{stays_within}

-- ---- with the newcomer, what is neither above nor below it has the family that it had

module _ (entries : List Admitted) (n : Admitted) where
  -- a step is an entry's, or leads to the newcomer
  step_cases : (a b : Id) → Contains (steps (entries ++ n ∷ [])) (a, b) → Contains (steps entries) (a, b) ⊎ (b ≡ txid_of n.tx)
  step_cases a b s =
      let w = step_entry (entries ++ n ∷ []) a b s in
      ⊎_elim
      (λ (m : Contains entries w.entry). inl (subst (λ (z : Id). Contains (steps entries) (z, b)) w.parent (subst (λ (z : Id). Contains (steps entries) (w.point.prevout.txid, z)) w.child (entry_step entries w.entry w.point m w.spent))))
      (λ (e : n ≡ w.entry). inr (sym w.child ∙ ap (λ (x : Admitted). txid_of x.tx) (sym e)))
      (Contains-push_cases entries n w.entry w.member)

  above_apart : {a b : Id} → Leads (steps (entries ++ n ∷ [])) a b → (reaches (steps (entries ++ n ∷ [])) (txid_of n.tx) b ≡ false) → Leads (steps entries) a b
  above_apart here beside = here
  above_apart (down {a = a} {b = b} {c = c} s l) beside =
      ⊎_elim (λ k. down k (above_apart l beside))
      (λ (e : b ≡ txid_of n.tx). absurd (true≢false (sym (subst (λ (x : Id). reaches (steps (entries ++ n ∷ [])) x c ≡ true) e (reaches_from_Leads l)) ∙ beside)))
      (step_cases a b s)

  below_apart : {a b : Id} → Leads (steps (entries ++ n ∷ [])) a b → (reaches (steps (entries ++ n ∷ [])) a (txid_of n.tx) ≡ false) → Leads (steps entries) a b
  below_apart here beside = here
  below_apart (down {a = a} {b = b} {c = c} s l) beside =
      let all = steps (entries ++ n ∷ []) in
      ⊎_elim
      (λ k. down k (below_apart l (false_from_ne_true _ (λ t. true≢false (sym (reaches_trans all a b (txid_of n.tx) (reaches_step all a b s) t) ∙ beside)))))
      (λ (e : b ≡ txid_of n.tx). absurd (true≢false (sym (subst (λ (x : Id). reaches all a x ≡ true) e (reaches_step all a b s)) ∙ beside)))
      (step_cases a b s)

-- ---- what enters, and what was judged

-- an entry that enters, and the newcomer that was judged, are of one transaction and one size
pub record AreAlike (e n : Admitted) : Type 0 where
  pub tx : e.tx ≡ n.tx
  pub vsize : e.vsize ≡ n.vsize

module _ (entries : List Admitted) (e n : Admitted) (alike : AreAlike e n) where
  -- no step is new
  fewer_steps : (a b : Id) → Contains (steps (entered entries e)) (a, b) → Contains (steps (entries ++ n ∷ [])) (a, b)
  fewer_steps a b s =
      let w = step_entry (entered entries e) a b s in
      let placed : (x : Admitted) → Contains (entries ++ n ∷ []) x → x.tx ≡ w.entry.tx → Contains (steps (entries ++ n ∷ [])) (a, b) =
      λ x m same. subst (λ (z : Id). Contains (steps (entries ++ n ∷ [])) (z, b)) w.parent
      (subst (λ (z : Id). Contains (steps (entries ++ n ∷ [])) (w.point.prevout.txid, z)) (ap txid_of same ∙ w.child)
      (entry_step (entries ++ n ∷ []) x w.point m (subst (λ (t : Tx). Contains t.inputs w.point) (sym same) w.spent))) in
      ⊎_elim
      (λ (m : Contains (without_below (is_conflict e.tx) entries) w.entry). placed w.entry (Contains-append_left entries (n ∷ []) w.entry (stays_within (is_conflict e.tx) entries w.entry m)) (λ _. w.entry.tx))
      (λ (k : e ≡ w.entry). placed n (Contains-push entries n) (sym alike.tx ∙ ap (λ (x : Admitted). x.tx) k))
      (Contains-push_cases (without_below (is_conflict e.tx) entries) e w.entry w.member)

  fewer_reached : (a b : Id) → reaches (steps (entered entries e)) a b ≡ true → reaches (steps (entries ++ n ∷ [])) a b ≡ true
  fewer_reached a b r = reaches_from_Leads (Leads_more fewer_steps (Leads_from_reaches (steps (entered entries e)) a b r))

  -- a family is no larger
  one_less : (f : Admitted → ℕ) (p q : Admitted → Bool) → f e ≤ f n → (p e ≡ true → q n ≡ true) → sum_by f (filter p (e ∷ [])) ≤ sum_by f (filter q (n ∷ []))
  one_less f p q fits h = go (p e) (q n) h
    where
      go : (b c : Bool) → (b ≡ true → c ≡ true) → sum_by f (cond b (e ∷ []) []) ≤ sum_by f (cond c (n ∷ []) [])
      go true true k = omega (arith, fits, sum_by-cons f e [], sum_by-cons f n [])
      go true false k = absurd (true≢false (sym (k (λ _. true))))
      go false c k = omega arith

  fewer_in : (f : Admitted → ℕ) (p q : Admitted → Bool) → f e ≤ f n → ((a : Admitted) → p a ≡ true → q a ≡ true) → (p e ≡ true → q n ≡ true) → sum_by f (filter p (entered entries e)) ≤ sum_by f (filter q (entries ++ n ∷ []))
  fewer_in f p q fits h k =
      let left = without_below (is_conflict e.tx) entries in
      omega (
        arith,
        ap (sum_by f) (filter-append p left (e ∷ [])) ∙ sum_by-append f (filter p left) (filter p (e ∷ [])),
        ap (sum_by f) (filter-append q entries (n ∷ [])) ∙ sum_by-append f (filter q entries) (filter q (n ∷ [])),
        sum_by-fewer f p (λ (a : Admitted). not (is_below_some (is_conflict e.tx) entries a)) q entries (λ a m. h a),
        one_less f p q fits k,
      )

  fewer_above : (f : Admitted → ℕ) → f e ≤ f n → (b : Id) → sum_by f (ancestors_of (entered entries e) b) ≤ sum_by f (ancestors_of (entries ++ n ∷ []) b)
  fewer_above f fits b =
      fewer_in f (λ (a : Admitted). reaches (steps (entered entries e)) (txid_of a.tx) b) (λ (a : Admitted). reaches (steps (entries ++ n ∷ [])) (txid_of a.tx) b) fits
      (λ a r. fewer_reached (txid_of a.tx) b r)
      (λ r. subst (λ (t : Tx). reaches (steps (entries ++ n ∷ [])) (txid_of t) b ≡ true) alike.tx (fewer_reached (txid_of e.tx) b r))

  fewer_below : (f : Admitted → ℕ) → f e ≤ f n → (b : Id) → sum_by f (descendants_of (entered entries e) b) ≤ sum_by f (descendants_of (entries ++ n ∷ []) b)
  fewer_below f fits b =
      fewer_in f (λ (a : Admitted). reaches (steps (entered entries e)) b (txid_of a.tx)) (λ (a : Admitted). reaches (steps (entries ++ n ∷ [])) b (txid_of a.tx)) fits
      (λ a r. fewer_reached b (txid_of a.tx) r)
      (λ r. subst (λ (t : Tx). reaches (steps (entries ++ n ∷ [])) b (txid_of t) ≡ true) alike.tx (fewer_reached b (txid_of e.tx) r))

  less_limited : (policy : Policy) (b : Id) → IsLimited policy (entries ++ n ∷ []) b → IsLimited policy (entered entries e) b
  less_limited policy b h =
      let one : Admitted → ℕ = λ a. 1 in
      let size : Admitted → ℕ = λ a. a.vsize in
      let all = entries ++ n ∷ [] in
      let after = entered entries e in
      let fits : e.vsize ≤ n.vsize = omega (arith, alike.vsize) in
      record {
        ancestors = omega (arith, h.ancestors, fewer_above one (omega arith) b, length_ones (ancestors_of after b), length_ones (ancestors_of all b));
        ancestors_size = omega (arith, h.ancestors_size, fewer_above size fits b);
        descendants = omega (arith, h.descendants, fewer_below one (omega arith) b, length_ones (descendants_of after b), length_ones (descendants_of all b));
        descendants_size = λ narrow. omega (arith, h.descendants_size narrow, fewer_below size fits b);
      }

-- ---- the newcomer among the entries

narrower : (f : Admitted → ℕ) (p q : Admitted → Bool) → ((a : Admitted) → p a ≡ true → q a ≡ true) → (l : List Admitted) → sum_by f (filter p l) ≤ sum_by f (filter q l)
narrower f p q k [] = omega arith
narrower f p q k (x ∷ l) = go (p x) (q x) (k x) (narrower f p q k l)
  where
    go : (b c : Bool) → (b ≡ true → c ≡ true) → sum_by f (filter p l) ≤ sum_by f (filter q l) → sum_by f (cond b (x ∷ filter p l) (filter p l)) ≤ sum_by f (cond c (x ∷ filter q l) (filter q l))
    go true true h s = omega (arith, s, sum_by-cons f x (filter p l), sum_by-cons f x (filter q l))
    go true false h s = absurd (true≢false (sym (h (λ _. true))))
    go false true h s = omega (arith, s, sum_by-cons f x (filter q l))
    go false false h s = s

module _ (entries : List Admitted) (n : Admitted) (b : Id) (above : reaches (steps (entries ++ n ∷ [])) b (txid_of n.tx) ≡ false) (below : reaches (steps (entries ++ n ∷ [])) (txid_of n.tx) b ≡ false) (f : Admitted → ℕ) where
  alone : (p : Admitted → Bool) → p n ≡ false → sum_by f (filter p (n ∷ [])) ≤ 0
  alone p h = omega (arith, ap (λ (c : Bool). sum_by f (cond c (n ∷ []) [])) h)

  same_part : (p q : Admitted → Bool) → p n ≡ false → ((a : Admitted) → p a ≡ true → q a ≡ true) → sum_by f (filter p (entries ++ n ∷ [])) ≤ sum_by f (filter q entries)
  same_part p q h k =
      omega (
        arith,
        ap (sum_by f) (filter-append p entries (n ∷ [])) ∙ sum_by-append f (filter p entries) (filter p (n ∷ [])),
        alone p h,
        narrower f p q k entries,
      )

  beside_above : sum_by f (ancestors_of (entries ++ n ∷ []) b) ≤ sum_by f (ancestors_of entries b)
  beside_above =
      same_part (λ (a : Admitted). reaches (steps (entries ++ n ∷ [])) (txid_of a.tx) b) (λ (a : Admitted). reaches (steps entries) (txid_of a.tx) b) below
      (λ a r. reaches_from_Leads (above_apart entries n (Leads_from_reaches (steps (entries ++ n ∷ [])) (txid_of a.tx) b r) below))

  beside_below : sum_by f (descendants_of (entries ++ n ∷ []) b) ≤ sum_by f (descendants_of entries b)
  beside_below =
      same_part (λ (a : Admitted). reaches (steps (entries ++ n ∷ [])) b (txid_of a.tx)) (λ (a : Admitted). reaches (steps entries) b (txid_of a.tx)) above
      (λ a r. reaches_from_Leads (below_apart entries n (Leads_from_reaches (steps (entries ++ n ∷ [])) b (txid_of a.tx) r) above))

beside_limited : (policy : Policy) (entries : List Admitted) (n : Admitted) (b : Id) → reaches (steps (entries ++ n ∷ [])) b (txid_of n.tx) ≡ false → reaches (steps (entries ++ n ∷ [])) (txid_of n.tx) b ≡ false
    → IsLimited policy entries b → IsLimited policy (entries ++ n ∷ []) b
beside_limited policy entries n b above below h =
    let one : Admitted → ℕ = λ a. 1 in
    let size : Admitted → ℕ = λ a. a.vsize in
    let all = entries ++ n ∷ [] in
    record {
      ancestors = omega (arith, h.ancestors, beside_above entries n b above below one, length_ones (ancestors_of all b), length_ones (ancestors_of entries b));
      ancestors_size = omega (arith, h.ancestors_size, beside_above entries n b above below size);
      descendants = omega (arith, h.descendants, beside_below entries n b above below one, length_ones (descendants_of all b), length_ones (descendants_of entries b));
      descendants_size = λ narrow. omega (arith, h.descendants_size narrow, beside_below entries n b above below size);
    }

-- what passes the test is limited
pub told_limited : (policy : Policy) (entries : List Admitted) (b : Id) → is_limited policy entries b ≡ true → IsLimited policy entries b
told_limited policy entries b h =
    let first = and_parts (nat_le (length (ancestors_of entries b)) (most_ancestors policy)) _ h in
    let second = and_parts (nat_le (size_of (ancestors_of entries b)) policy.ancestors_size) _ first.1 in
    let third = and_parts (nat_le (length (descendants_of entries b)) (most_descendants policy)) (nat_le (size_of (descendants_of entries b)) (most_descendants_size policy)) second.1 in
    record { ancestors = leb-true _ _ first.0; ancestors_size = leb-true _ _ second.0; descendants = leb-true _ _ third.0; descendants_size = λ narrow. leb-true _ _ third.1 }

-- each entry is limited with the newcomer, and so is the newcomer
pub all_limited : (policy : Policy) (entries : List Admitted) (n : Admitted) → ((a : Admitted) → Contains entries a → IsLimited policy entries (txid_of a.tx))
    → list_all (λ (a : Admitted). is_limited policy (entries ++ n ∷ []) (txid_of a.tx)) (ancestors_of (entries ++ n ∷ []) (txid_of n.tx)) ≡ true
    → list_all (λ (a : Admitted). is_limited policy (entries ++ n ∷ []) (txid_of a.tx)) (descendants_of (entries ++ n ∷ []) (txid_of n.tx)) ≡ true
    → (a : Admitted) → Contains (entries ++ n ∷ []) a → IsLimited policy (entries ++ n ∷ []) (txid_of a.tx)
all_limited policy entries n limited above below a m =
    let all = entries ++ n ∷ [] in
    let up : reaches (steps all) (txid_of a.tx) (txid_of n.tx) ≡ true → IsLimited policy all (txid_of a.tx) =
    λ r. told_limited policy all (txid_of a.tx) (list_all_of (λ (x : Admitted). is_limited policy all (txid_of x.tx)) (ancestors_of all (txid_of n.tx)) a above
    (Contains-filter (λ (x : Admitted). reaches (steps all) (txid_of x.tx) (txid_of n.tx)) all a m r)) in
    ⊎_elim up
    (λ (r : reaches (steps all) (txid_of a.tx) (txid_of n.tx) ≡ false). ⊎_elim
    (λ (d : reaches (steps all) (txid_of n.tx) (txid_of a.tx) ≡ true).
    told_limited policy all (txid_of a.tx) (list_all_of (λ (x : Admitted). is_limited policy all (txid_of x.tx)) (descendants_of all (txid_of n.tx)) a below
    (Contains-filter (λ (x : Admitted). reaches (steps all) (txid_of n.tx) (txid_of x.tx)) all a m d)))
    (λ (d : reaches (steps all) (txid_of n.tx) (txid_of a.tx) ≡ false). ⊎_elim
    (λ (k : Contains entries a). beside_limited policy entries n (txid_of a.tx) r d (limited a k))
    (λ (e : n ≡ a). up (subst (λ (x : Admitted). reaches (steps all) (txid_of x.tx) (txid_of n.tx) ≡ true) e (reaches-same (steps all) (txid_of n.tx))))
    (Contains-push_cases entries n a m))
    (cases_Bool (reaches (steps all) (txid_of n.tx) (txid_of a.tx))))
    (cases_Bool (reaches (steps all) (txid_of a.tx) (txid_of n.tx)))

-- ---- what is granted

true_from_not : (b : Bool) → not b ≡ false → b ≡ true
true_from_not true h = λ _. true
true_from_not false h = sym h

entered_limited : (policy : Policy) (entries : List Admitted) (e n : Admitted) → AreAlike e n → ((a : Admitted) → Contains (entries ++ n ∷ []) a → IsLimited policy (entries ++ n ∷ []) (txid_of a.tx))
    → All (λ (a : Admitted). IsLimited policy (entered entries e) (txid_of a.tx)) (entered entries e)
entered_limited policy entries e n alike limited k d l =
    let a = get_or (entered entries e) k d in
    less_limited entries e n alike policy (txid_of a.tx)
    (⊎_elim
    (λ (m : Contains (without_below (is_conflict e.tx) entries) a). limited a (Contains-append_left entries (n ∷ []) a (stays_within (is_conflict e.tx) entries a m)))
    (λ (same : e ≡ a). subst (λ (t : Tx). IsLimited policy (entries ++ n ∷ []) (txid_of t)) (sym alike.tx ∙ ap (λ (x : Admitted). x.tx) same) (limited n (Contains-push entries n)))
    (Contains-push_cases (without_below (is_conflict e.tx) entries) e a (Contains-get_or (entered entries e) k d l)))

room_again : (over : Standing) (tx : Tx) → Passes Again over tx → fits_again over.policy over.entries tx (grant_of Again over tx).vsize ≡ true
unfolding grant_of limit_rules
room_again over tx p = true_from_not _ p.limits.0

-- families stay within their limits where a transaction enters that was tried again and granted
pub again_limited : (over : Standing) (tx : Tx) (grant : Grant) (now : ℕ) → All (λ (e : Admitted). IsLimited over.policy over.entries (txid_of e.tx)) over.entries → decision_of Again over (Some tx) ≡ Ok grant
    → All (λ (e : Admitted). IsLimited over.policy (entered over.entries (admitted tx grant now)) (txid_of e.tx)) (entered over.entries (admitted tx grant now))
unfolding decision_of
again_limited over tx grant now limited d =
    let both = granted (first_failing (admission_rules Again over tx)) (grant_of Again over tx) grant d in
    let room : fits_again over.policy over.entries tx grant.vsize ≡ true = subst (λ (g : Grant). fits_again over.policy over.entries tx g.vsize ≡ true) both.1 (room_again over tx (passes Again over tx both.0)) in
    let n : Admitted = record { tx = tx; fee = 0; vsize = grant.vsize; time = 0 } in
    let parts = (and_parts _ _ (and_parts _ _ room).1) in
    entered_limited over.policy over.entries (admitted tx grant now) n (record { tx = λ _. tx; vsize = λ _. grant.vsize })
    (all_limited over.policy over.entries n (λ a m. All-contains (λ (x : Admitted). IsLimited over.policy over.entries (txid_of x.tx)) over.entries a limited m) parts.0 parts.1)
