-- What an index says of a search, and how it follows changes of the slots.
use Rattle.std.proofs.Common.{◌≡◌, ◌≢◌, ℕ, zero, suc, ◌+◌, Bool, true, false, cond, not, List, [], ◌∷◌, ◌++◌, length, Option, Some, None, refl, sym, ap, ◌∙◌, ◌⊎◌, inl, inr, arith, true≢false}
use Rattle.std.specs.Prelude.{find, filter, slice_set}
use Rattle.std.specs.Option.{option_and_then}
use Rattle.std.proofs.lemmas.Option.{none-some, same_Some}
use Rattle.std.proofs.lemmas.Bool.{cases_Bool, false_from_ne_true}
use Rattle.std.proofs.lemmas.List.{get_or-set_other}
use Rattle.gate_graph.specs.Slots.{entries_of, at, passes, Indexes}

-- only what stands at i passes
abbrev pub IsOnly : {E : Type 0} → (E → Bool) → List (Option E) → ℕ → Type 0
IsOnly test slots i = (j : ℕ) → passes test (at slots j) ≡ true → j ≡ i

module _ {E : Type 0} (test : E → Bool) where
  pub find_only : (slots : List (Option E)) (i : ℕ) → passes test (at slots i) ≡ true → IsOnly test slots i → find test (entries_of slots) ≡ at slots i
  find_only [] i h u = absurd (true≢false (sym h))
  find_only (None ∷ slots) zero h u = absurd (true≢false (sym h))
  find_only (None ∷ slots) (suc i) h u = find_only slots i h (λ j p. omega (arith, u (suc j) p))
  find_only (Some e ∷ slots) zero h u = ap (λ b. cond b (Some e) (find test (entries_of slots))) h
  find_only (Some e ∷ slots) (suc i) h u =
      let no : test e ≡ false = false_from_ne_true _ (λ p. absurd (omega (arith, u 0 p))) in
      ap (λ b. cond b (Some e) (find test (entries_of slots))) no ∙ find_only slots i h (λ j p. omega (arith, u (suc j) p))

  pub find_nowhere : (slots : List (Option E)) → ((j : ℕ) → passes test (at slots j) ≡ false) → find test (entries_of slots) ≡ None
  find_nowhere [] h = refl
  find_nowhere (None ∷ slots) h = find_nowhere slots (λ j. h (suc j))
  find_nowhere (Some e ∷ slots) h = ap (λ b. cond b (Some e) (find test (entries_of slots))) (h 0) ∙ find_nowhere slots (λ j. h (suc j))

module _ {E K : Type 0} {has : E → K → Bool} {slots : List (Option E)} {look : K → Option ℕ} where
  pub only_place : Indexes has slots look → (k : K) (i : ℕ) → look k ≡ Some i → IsOnly (λ e. has e k) slots i
  only_place h k i l j p = same_Some j i (sym (h.whole k j p) ∙ l)

  -- a search finds what stands where the index says
  pub searched : Indexes has slots look → (k : K) (o : Option ℕ) → o ≡ look k → option_and_then (at slots) o ≡ find (λ e. has e k) (entries_of slots)
  searched h k None l = sym (find_nowhere (λ e. has e k) slots (λ j. false_from_ne_true _ (λ p. none-some j (l ∙ h.whole k j p))))
  searched h k (Some i) l = sym (find_only (λ e. has e k) slots i (h.sound k i (sym l)) (only_place h k i (sym l)))

  -- what a search does not find has no place
  pub unknown : Indexes has slots look → (k : K) → find (λ e. has e k) (entries_of slots) ≡ None → look k ≡ None
  unknown h k none = by (look k) refl
    where
      by : (o : Option ℕ) → o ≡ look k → o ≡ None
      by None l = refl
      by (Some i) l =
          let empty : at slots i ≡ None = searched h k (Some i) l ∙ none in
          absurd (true≢false (sym (h.sound k i (sym l)) ∙ ap (passes (λ e. has e k)) empty))

-- one more slot
module _ {E : Type 0} where
  pub pushed_at : (slots : List (Option E)) (s : Option E) (j : ℕ) → ((j ≡ length slots) × (at (slots ++ s ∷ []) j ≡ s)) ⊎ ((j ≢ length slots) × (at (slots ++ s ∷ []) j ≡ at slots j))
  pushed_at [] s zero = inl (refl, refl)
  pushed_at [] s (suc j) = inr (λ e. omega (arith, e), refl)
  pushed_at (x ∷ slots) s zero = inr (λ e. omega (arith, e), refl)
  pushed_at (x ∷ slots) s (suc j) =
      elim (pushed_at slots s j) [
        | inl p ↦ inl (ap suc p.0, p.1)
        | inr p ↦ inr (λ e. p.0 (omega (arith, e)), p.1)
      ]

  pub entries_of-push : (slots : List (Option E)) (e : E) → entries_of (slots ++ Some e ∷ []) ≡ entries_of slots ++ e ∷ []
  entries_of-push [] e = refl
  entries_of-push (None ∷ slots) e = entries_of-push slots e
  entries_of-push (Some x ∷ slots) e = ap (λ l. x ∷ l) (entries_of-push slots e)

  -- past the end nothing stands
  pub at_end : (slots : List (Option E)) → at slots (length slots) ≡ None
  at_end [] = refl
  at_end (x ∷ slots) = at_end slots

module _ {E K : Type 0} {has : E → K → Bool} {slots : List (Option E)} {look look' : K → Option ℕ} where
  pub Indexes-push : (e : E) → Indexes has slots look → ((k : K) → has e k ≡ true → look k ≡ None) → ((k : K) → look' k ≡ cond (has e k) (Some (length slots)) (look k)) → Indexes has (slots ++ Some e ∷ []) look'
  Indexes-push e h new is = record { sound = sound; whole = whole }
    where
      there : (k : K) → has e k ≡ true → look' k ≡ Some (length slots)
      there k t = is k ∙ ap (λ b. cond b (Some (length slots)) (look k)) t

      elsewhere : (k : K) → has e k ≡ false → look' k ≡ look k
      elsewhere k t = is k ∙ ap (λ b. cond b (Some (length slots)) (look k)) t

      sound : (k : K) (i : ℕ) → look' k ≡ Some i → passes (λ e. has e k) (at (slots ++ Some e ∷ []) i) ≡ true
      sound k i l =
          elim (cases_Bool (has e k)) [
            | inl t ↦
                let here : i ≡ length slots = same_Some i (length slots) (sym l ∙ there k t) in
                elim (pushed_at slots (Some e) i) [
                  | inl p ↦ ap (passes (λ e. has e k)) p.1 ∙ t
                  | inr p ↦ absurd (p.0 here)
                ]
            | inr t ↦
                let old = h.sound k i (sym (elsewhere k t) ∙ l) in
                elim (pushed_at slots (Some e) i) [
                  | inl p ↦ absurd (true≢false (sym old ∙ ap (passes (λ e. has e k)) (ap (at slots) p.0 ∙ at_end slots)))
                  | inr p ↦ ap (passes (λ e. has e k)) p.1 ∙ old
                ]
          ]

      whole : (k : K) (i : ℕ) → passes (λ e. has e k) (at (slots ++ Some e ∷ []) i) ≡ true → look' k ≡ Some i
      whole k i p =
          elim (pushed_at slots (Some e) i) [
            | inl q ↦ there k (sym (ap (passes (λ e. has e k)) q.1) ∙ p) ∙ ap Some (sym q.0)
            | inr q ↦
                let old = h.whole k i (sym (ap (passes (λ e. has e k)) q.1) ∙ p) in
                elsewhere k (false_from_ne_true _ (λ t. none-some i (sym (new k t) ∙ old))) ∙ old
          ]

-- a slot is emptied
module _ {E : Type 0} where
  pub emptied_at : (slots : List (Option E)) (i : ℕ) → at (slice_set slots i None) i ≡ None
  emptied_at [] i = refl
  emptied_at (x ∷ slots) zero = refl
  emptied_at (x ∷ slots) (suc i) = emptied_at slots i

  pub all_stay : (test : E → Bool) (slots : List (Option E)) → ((j : ℕ) → passes test (at slots j) ≡ false) → entries_of slots ≡ filter (λ e. not (test e)) (entries_of slots)
  all_stay test [] h = refl
  all_stay test (None ∷ slots) h = all_stay test slots (λ j. h (suc j))
  all_stay test (Some e ∷ slots) h =
      ap (λ l. e ∷ l) (all_stay test slots (λ j. h (suc j))) ∙ ap (λ b. cond (not b) (e ∷ filter (λ e. not (test e)) (entries_of slots)) (filter (λ e. not (test e)) (entries_of slots))) (sym (h 0))

  -- without the one that passes
  pub entries_of-take : (test : E → Bool) (slots : List (Option E)) (i : ℕ) → passes test (at slots i) ≡ true → IsOnly test slots i → entries_of (slice_set slots i None) ≡ filter (λ e. not (test e)) (entries_of slots)
  entries_of-take test [] i h u = absurd (true≢false (sym h))
  entries_of-take test (None ∷ slots) zero h u = absurd (true≢false (sym h))
  entries_of-take test (None ∷ slots) (suc i) h u = entries_of-take test slots i h (λ j p. omega (arith, u (suc j) p))
  entries_of-take test (Some e ∷ slots) zero h u =
      all_stay test slots (λ j. false_from_ne_true _ (λ p. absurd (omega (arith, u (suc j) p))))
      ∙ ap (λ b. cond (not b) (e ∷ filter (λ e. not (test e)) (entries_of slots)) (filter (λ e. not (test e)) (entries_of slots))) (sym h)
  entries_of-take test (Some e ∷ slots) (suc i) h u =
      let no : test e ≡ false = false_from_ne_true _ (λ p. absurd (omega (arith, u 0 p))) in
      ap (λ l. e ∷ l) (entries_of-take test slots i h (λ j p. omega (arith, u (suc j) p)))
      ∙ ap (λ b. cond (not b) (e ∷ filter (λ e. not (test e)) (entries_of slots)) (filter (λ e. not (test e)) (entries_of slots))) (sym no)

  pub length-take_one : (slots : List (Option E)) (i : ℕ) (e : E) → at slots i ≡ Some e → length (entries_of (slice_set slots i None)) + 1 ≡ length (entries_of slots)
  length-take_one [] i e h = absurd (none-some e h)
  length-take_one (None ∷ slots) zero e h = absurd (none-some e h)
  length-take_one (None ∷ slots) (suc i) e h = length-take_one slots i e h
  length-take_one (Some x ∷ slots) zero e h = omega arith
  length-take_one (Some x ∷ slots) (suc i) e h = omega (arith, length-take_one slots i e h)

module _ {E K : Type 0} {has : E → K → Bool} {slots : List (Option E)} {look look' : K → Option ℕ} where
  pub Indexes-take : (e : E) (i : ℕ) → Indexes has slots look → at slots i ≡ Some e → ((k : K) → look' k ≡ cond (has e k) None (look k)) → Indexes has (slice_set slots i None) look'
  Indexes-take e i h here is = record { sound = sound; whole = whole }
    where
      gone : (k : K) → has e k ≡ true → look' k ≡ None
      gone k t = is k ∙ ap (λ b. cond b None (look k)) t

      elsewhere : (k : K) → has e k ≡ false → look' k ≡ look k
      elsewhere k t = is k ∙ ap (λ b. cond b None (look k)) t

      sound : (k : K) (j : ℕ) → look' k ≡ Some j → passes (λ e. has e k) (at (slice_set slots i None) j) ≡ true
      sound k j l =
          elim (cases_Bool (has e k)) [
            | inl t ↦ absurd (none-some j (sym (gone k t) ∙ l))
            | inr t ↦
                let old = h.sound k j (sym (elsewhere k t) ∙ l) in
                let other : j ≢ i = λ s. true≢false (sym old ∙ ap (passes (λ e. has e k)) (ap (at slots) s ∙ here) ∙ t) in
                ap (passes (λ e. has e k)) (get_or-set_other slots i j None None other) ∙ old
          ]

      whole : (k : K) (j : ℕ) → passes (λ e. has e k) (at (slice_set slots i None) j) ≡ true → look' k ≡ Some j
      whole k j p =
          let other : j ≢ i = λ s. true≢false (sym p ∙ ap (passes (λ e. has e k)) (ap (at (slice_set slots i None)) s ∙ emptied_at slots i)) in
          let old = h.whole k j (sym (ap (passes (λ e. has e k)) (get_or-set_other slots i j None None other)) ∙ p) in
          elsewhere k (false_from_ne_true _ (λ t. other (same_Some j i (sym old ∙ h.whole k i (ap (passes (λ e. has e k)) here ∙ t))))) ∙ old
