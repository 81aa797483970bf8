-- Filters and images of lists.
use Rattle.std.proofs.Common.{◌≡◌, Bool, true, false, cond, List, [], ◌∷◌, refl, sym, ap, ◌∙◌, subst, ◌⊎◌, inl, inr, map, arith}
use Rattle.std.specs.Prelude.{Contains, filter}
use Rattle.std.proofs.lemmas.Bool.{true≢false, cond-true, cond-false}
use Rattle.gate_bytes.proofs.Members.{Contains-cons_cases, Contains-head, Contains-rest}

module _ {X : Type 0} where
  -- what passes stays
  pub Contains-filter : (p : X → Bool) (xs : List X) (x : X) → Contains xs x → p x ≡ true → Contains (filter p xs) x
  Contains-filter p [] x c h = absurd (omega arith)
  Contains-filter p (y ∷ xs) x c h = go (λ k. Contains-filter p xs x k h) (p y) refl (Contains-cons_cases y xs x c)
    where
      go : (Contains xs x → Contains (filter p xs) x) → (b : Bool) → p y ≡ b → (y ≡ x) ⊎ Contains xs x → Contains (cond b (y ∷ filter p xs) (filter p xs)) x
      go ih true e (inl same) = subst (Contains (y ∷ filter p xs)) same (Contains-head y (filter p xs))
      go ih true e (inr k) = Contains-rest y (filter p xs) x (ih k)
      go ih false e (inl same) = absurd (true≢false (sym (ap p same ∙ h) ∙ e))
      go ih false e (inr k) = ih k

  -- what is left was there, and passes
  pub Contains-from_filter : (p : X → Bool) (xs : List X) (x : X) → Contains (filter p xs) x → Contains xs x × (p x ≡ true)
  Contains-from_filter p [] x c = absurd (omega arith)
  Contains-from_filter p (y ∷ xs) x c = go (λ k. Contains-from_filter p xs x k) (p y) refl c
    where
      go : (Contains (filter p xs) x → Contains xs x × (p x ≡ true)) → (b : Bool) → p y ≡ b → Contains (cond b (y ∷ filter p xs) (filter p xs)) x → Contains (y ∷ xs) x × (p x ≡ true)
      go ih true e k =
          elim (Contains-cons_cases y (filter p xs) x k) [
            | inl same ↦ (subst (Contains (y ∷ xs)) same (Contains-head y xs), sym (ap p same) ∙ e)
            | inr m ↦ let w = ih m in (Contains-rest y xs x w.0, w.1)
          ]
      go ih false e k = let w = ih k in (Contains-rest y xs x w.0, w.1)

  -- a filter that all pass
  pub filter_all : (p : X → Bool) (xs : List X) → ((x : X) → Contains xs x → p x ≡ true) → filter p xs ≡ xs
  filter_all p [] h = refl
  filter_all p (x ∷ xs) h = cond-true (p x) (x ∷ filter p xs) (filter p xs) (h x (Contains-head x xs)) ∙ ap (λ l. x ∷ l) (filter_all p xs (λ y c. h y (Contains-rest x xs y c)))

  -- a filter that none passes
  pub filter_none : (p : X → Bool) (xs : List X) → ((x : X) → Contains xs x → p x ≡ false) → filter p xs ≡ []
  filter_none p [] h = refl
  filter_none p (x ∷ xs) h = cond-false (p x) (x ∷ filter p xs) (filter p xs) (h x (Contains-head x xs)) ∙ filter_none p xs (λ y c. h y (Contains-rest x xs y c))

-- two filters by which the same pass
pub filter_same_on : {X : Type 0} (p q : X → Bool) (xs : List X) → ((x : X) → Contains xs x → p x ≡ q x) → filter p xs ≡ filter q xs
filter_same_on p q [] h = refl
filter_same_on p q (x ∷ xs) h = λ i. cond (h x (Contains-head x xs) i) (x ∷ filter_same_on p q xs (λ y c. h y (Contains-rest x xs y c)) i) (filter_same_on p q xs (λ y c. h y (Contains-rest x xs y c)) i)

-- what passes of images is the image of what passes
pub filter-map : {X Y : Type 0} (f : X → Y) (p : Y → Bool) (xs : List X) → filter p (map f xs) ≡ map f (filter (λ x. p (f x)) xs)
filter-map f p [] = refl
filter-map {X} {Y} f p (x ∷ xs) = go (p (f x)) (filter-map f p xs)
  where
    go : (b : Bool) → filter p (map f xs) ≡ map f (filter (λ x. p (f x)) xs) → cond b (f x ∷ filter p (map f xs)) (filter p (map f xs)) ≡ map f (cond b (x ∷ filter (λ x. p (f x)) xs) (filter (λ x. p (f x)) xs))
    go true e = ap (λ l. f x ∷ l) e
    go false e = e

-- the images of elements are those of the image
pub Contains-map : {X Y : Type 0} (f : X → Y) (xs : List X) (x : X) → Contains xs x → Contains (map f xs) (f x)
Contains-map f [] x c = absurd (omega arith)
Contains-map f (y ∷ xs) x c =
    elim (Contains-cons_cases y xs x c) [
      | inl e ↦ subst (λ z. Contains (map f (y ∷ xs)) (f z)) e (Contains-head (f y) (map f xs))
      | inr k ↦ Contains-rest (f y) (map f xs) (f x) (Contains-map f xs x k)
    ]

pub Contains-from_map : {X Y : Type 0} (f : X → Y) (xs : List X) (y : Y) → Contains (map f xs) y → (x : X) × Contains xs x × (f x ≡ y)
Contains-from_map f [] y c = absurd (omega arith)
Contains-from_map f (x ∷ xs) y c =
    elim (Contains-cons_cases (f x) (map f xs) y c) [
      | inl e ↦ (x, Contains-head x xs, e)
      | inr k ↦ let w = Contains-from_map f xs y k in (w.0, Contains-rest x xs w.0 w.1, w.2)
    ]
