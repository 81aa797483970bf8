-- What `Contains` says of a list by its head and tail.
use Rattle.std.proofs.Common.{◌≡◌, ℕ, zero, suc, ◌<◌, Bool, true, List, [], ◌∷◌, length, get_or, refl, sym, ap, ◌∙◌, ◌⊎◌, inl, inr, arith, ⊎_elim}
use Rattle.std.specs.Prelude.{Contains}
use Rattle.std.specs.List.{list_any}
use Rattle.std.proofs.lemmas.Bool.{or_cases, or_left, or_right, true≢false}

module _ {X : Type 0} where
  pub Contains-cons_cases : (y : X) (xs : List X) (x : X) → Contains (y ∷ xs) x → (y ≡ x) ⊎ Contains xs x
  Contains-cons_cases y xs x c = at y xs x c.0 c.1 c.2
    where
      at : (y : X) (xs : List X) (x : X) (k : ℕ) → k < length (y ∷ xs) → get_or (y ∷ xs) k x ≡ x → (y ≡ x) ⊎ Contains xs x
      at y xs x zero l e = inl e
      at y xs x (suc k) l e = inr (k, omega arith, e)

  pub Contains-head : (x : X) (xs : List X) → Contains (x ∷ xs) x
  Contains-head x xs = (0, omega arith, refl)

  pub Contains-rest : (y : X) (xs : List X) (x : X) → Contains xs x → Contains (y ∷ xs) x
  Contains-rest y xs x c = (suc c.0, omega arith, c.2)

  pub not_in_none : (x : X) → Contains [] x → {A : Type 0} → A
  not_in_none x c = absurd (omega arith)

  pub any_is : (p : X → Bool) (xs : List X) → list_any p xs ≡ true → (x : X) × Contains xs x × (p x ≡ true)
  any_is p [] h = absurd (true≢false (sym h))
  any_is p (x ∷ xs) h =
      ⊎_elim (λ e. (x, Contains-head x xs, e)) (λ k. let w = any_is p xs k in (w.0, Contains-rest x xs w.0 w.1, w.2)) (or_cases _ _ h)

  pub list_any_of : (p : X → Bool) (xs : List X) (x : X) → Contains xs x → p x ≡ true → list_any p xs ≡ true
  list_any_of p [] x c h = absurd (omega arith)
  list_any_of p (y ∷ xs) x c h =
      ⊎_elim (λ e. or_left _ _ (ap p e ∙ h)) (λ k. or_right _ _ (list_any_of p xs x k h)) (Contains-cons_cases y xs x c)
