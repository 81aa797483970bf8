-- Holes are closed, and the entries numbered anew.
use Rattle.std.proofs.Common.{◌≡◌, ℕ, zero, suc, ◌+◌, ◌<◌, Bool, true, false, cond, List, [], ◌∷◌, length, Option, Some, None, is_some, refl, sym, ap, ◌∙◌, inl, inr, arith, true≢false, get_or}
use Rattle.std.proofs.lemmas.List.{get_or_read}
use Rattle.std.specs.Prelude.{filter}
use Rattle.std.proofs.lemmas.Option.{same_Some}
use Rattle.std.proofs.lemmas.Bool.{cases_Bool, cases_eq, false_from_ne_true}
use Rattle.gate_graph.specs.Slots.{entries_of, at, passes, Indexes, Covers}

abbrev pub closed : {E : Type 0} → List (Option E) → List (Option E)
closed slots = filter is_some slots

module _ {E : Type 0} where
  pub entries_of-closed : (slots : List (Option E)) → entries_of (closed slots) ≡ entries_of slots
  entries_of-closed [] = refl
  entries_of-closed (None ∷ slots) = entries_of-closed slots
  entries_of-closed (Some e ∷ slots) = ap (λ l. e ∷ l) (entries_of-closed slots)

  -- a place in the one list for a place in the other
  stays : (test : E → Bool) (slots : List (Option E)) (i : ℕ) → passes test (at slots i) ≡ true → (j : ℕ) × (passes test (at (closed slots) j) ≡ true)
  stays test [] i h = absurd (true≢false (sym h))
  stays test (None ∷ slots) zero h = absurd (true≢false (sym h))
  stays test (None ∷ slots) (suc i) h = stays test slots i h
  stays test (Some e ∷ slots) zero h = (0, h)
  stays test (Some e ∷ slots) (suc i) h = let w = stays test slots i h in (suc w.0, w.1)

  came : (test : E → Bool) (slots : List (Option E)) (j : ℕ) → passes test (at (closed slots) j) ≡ true → (i : ℕ) × (passes test (at slots i) ≡ true)
  came test [] j h = absurd (true≢false (sym h))
  came test (None ∷ slots) j h = let w = came test slots j h in (suc w.0, w.1)
  came test (Some e ∷ slots) zero h = (0, h)
  came test (Some e ∷ slots) (suc j) h = let w = came test slots j h in (suc w.0, w.1)

  abbrev pub AreOne : (E → Bool) → List (Option E) → Type 0
  AreOne test slots = (i j : ℕ) → passes test (at slots i) ≡ true → passes test (at slots j) ≡ true → i ≡ j

  AreOne-closed : (test : E → Bool) (slots : List (Option E)) → AreOne test slots → AreOne test (closed slots)
  AreOne-closed test [] u i j p q = absurd (true≢false (sym p))
  AreOne-closed test (None ∷ slots) u i j p q = AreOne-closed test slots (λ a b p q. omega (arith, u (suc a) (suc b) p q)) i j p q
  AreOne-closed test (Some e ∷ slots) u zero zero p q = refl
  AreOne-closed test (Some e ∷ slots) u zero (suc j) p q = let w = came test slots j q in absurd (omega (arith, u 0 (suc w.0) p w.1))
  AreOne-closed test (Some e ∷ slots) u (suc i) zero p q = let w = came test slots i p in absurd (omega (arith, u (suc w.0) 0 w.1 q))
  AreOne-closed test (Some e ∷ slots) u (suc i) (suc j) p q = ap suc (AreOne-closed test slots (λ a b p q. omega (arith, u (suc a) (suc b) p q)) i j p q)

  pub at_read : (slots : List (Option E)) (i : ℕ) (s : Option E) → i < length slots → s ≡ get_or slots i s → at slots i ≡ s
  at_read slots i s h is = sym (get_or_read slots i s h is None)

some_is : {X : Type 0} (o : Option X) → is_some o ≡ true → (x : X) × (o ≡ Some x)
some_is None h = absurd (true≢false (sym h))
some_is (Some x) h = (x, refl)

module _ {E K : Type 0} {has : E → K → Bool} {slots : List (Option E)} {look : K → Option ℕ} where
  pub Covers-closed : Indexes has slots look → Covers has (closed slots) look
  Covers-closed h = record {
    apart = λ k. AreOne-closed (λ e. has e k) slots (λ i j p q. same_Some i j (sym (h.whole k i p) ∙ h.whole k j q));
    had = λ k s. let w = some_is (look k) s in stays (λ e. has e k) slots w.0 (h.sound k w.0 w.1);
    known = λ k j p. let w = came (λ e. has e k) slots j p in ap is_some (h.whole k w.0 w.1);
  }

-- the places before i are written
pub record Moved {E K : Type 0} (has : E → K → Bool) (slots : List (Option E)) (i : ℕ) (first look : K → Option ℕ) : Type 0 where
  pub done : (k : K) (j : ℕ) → j < i → passes (λ e. has e k) (at slots j) ≡ true → look k ≡ Some j
  pub same : (k : K) → is_some (look k) ≡ is_some (first k)

module _ {E K : Type 0} {has : E → K → Bool} {slots : List (Option E)} {first : K → Option ℕ} where
  pub Moved-skip : {i : ℕ} {look : K → Option ℕ} → Moved has slots i first look → at slots i ≡ None → Moved has slots (i + 1) first look
  Moved-skip {i} {look} m none = record {
    done = λ k j l p.
        elim (cases_eq j i) [
          | inl e ↦ absurd (true≢false (sym p ∙ ap (passes (λ e. has e k)) (ap (at slots) e ∙ none)))
          | inr n ↦ m.done k j (omega (arith, l, n)) p
        ];
    same = m.same;
  }

  -- the keys of an entry are there
  pub Moved-known : {i : ℕ} {look : K → Option ℕ} → Covers has slots first → Moved has slots i first look → (e : E) → at slots i ≡ Some e → (k : K) → has e k ≡ true → is_some (look k) ≡ true
  Moved-known {i} c m e here k t = m.same k ∙ c.known k i (ap (passes (λ e. has e k)) here ∙ t)

  pub Moved-step : {i : ℕ} {look look' : K → Option ℕ} → Covers has slots first → Moved has slots i first look → (e : E) → at slots i ≡ Some e
      → ((k : K) → look' k ≡ cond (has e k) (Some i) (look k)) → Moved has slots (i + 1) first look'
  Moved-step {i} {look} {look'} c m e here is = record { done = done; same = same }
    where
      there : (k : K) → has e k ≡ true → look' k ≡ Some i
      there k t = is k ∙ ap (λ b. cond b (Some i) (look k)) t

      elsewhere : (k : K) → has e k ≡ false → look' k ≡ look k
      elsewhere k t = is k ∙ ap (λ b. cond b (Some i) (look k)) t

      done : (k : K) (j : ℕ) → j < i + 1 → passes (λ e. has e k) (at slots j) ≡ true → look' k ≡ Some j
      done k j l p =
          elim (cases_eq j i) [
            | inl s ↦ there k (sym (ap (passes (λ e. has e k)) (ap (at slots) s ∙ here)) ∙ p) ∙ ap Some (sym s)
            | inr n ↦ elsewhere k (false_from_ne_true _ (λ t. n (c.apart k j i p (ap (passes (λ e. has e k)) here ∙ t)))) ∙ m.done k j (omega (arith, l, n)) p
          ]

      same : (k : K) → is_some (look' k) ≡ is_some (first k)
      same k =
          elim (cases_Bool (has e k)) [
            | inl t ↦ ap is_some (there k t) ∙ sym (c.known k i (ap (passes (λ e. has e k)) here ∙ t))
            | inr t ↦ ap is_some (elsewhere k t) ∙ m.same k
          ]
