-- What holds of a part of a list that holds of the whole: sums, searches, and lists made of lists.
use Rattle.std.proofs.Common.{◌≡◌, ◌≤◌, ◌+◌, ℕ, suc, Bool, true, false, cond, List, [], ◌∷◌, ◌++◌, length, Some, refl, sym, ap, ◌∙◌, subst, arith, ⊎_elim}
use Rattle.std.specs.Prelude.{Contains, filter, find, sum_by}
use Rattle.std.specs.List.{All, AllPairs, list_all, flat_map}
use Rattle.std.proofs.lemmas.Bool.{true≢false, false_from_ne_true, and_parts, cond-false}
use Rattle.std.proofs.lemmas.List.Elements.{All-nil, All-cons, All-head, All-tail, All-append}
use Rattle.std.proofs.lemmas.List.Kept.{AllPairs-cons}
use Rattle.std.proofs.lemmas.List.Sums.{sum_by-cons}
use Rattle.gate_bytes.proofs.Members.{Contains-cons_cases, Contains-head, Contains-rest, not_in_none}
use Rattle.gate_admit.proofs.Lists.{AllPairs-nil, AllPairs-append}

-- ---- tests

-- where a test passes each element, it passes one
pub list_all_of : {X : Type 0} (p : X → Bool) (xs : List X) (x : X) → list_all p xs ≡ true → Contains xs x → p x ≡ true
list_all_of p [] x h m = not_in_none x m
list_all_of p (y ∷ xs) x h m =
    let parts = and_parts (p y) (list_all p xs) h in
    ⊎_elim (λ (e : y ≡ x). ap p (sym e) ∙ parts.0) (λ (k : Contains xs x). list_all_of p xs x parts.1 k) (Contains-cons_cases y xs x m)

-- a search finds the same among what is left, where all that it may find is left
pub find-filter_same : {X : Type 0} (t k : X → Bool) (xs : List X) → ((x : X) → Contains xs x → t x ≡ true → k x ≡ true) → find t (filter k xs) ≡ find t xs
find-filter_same t k [] h = refl
find-filter_same {X} t k (x ∷ xs) h = go (k x) (h x (Contains-head x xs)) (find-filter_same t k xs (λ y m. h y (Contains-rest x xs y m)))
  where
    go : (b : Bool) → (t x ≡ true → b ≡ true) → find t (filter k xs) ≡ find t xs → find t (cond b (x ∷ filter k xs) (filter k xs)) ≡ cond (t x) (Some x) (find t xs)
    go true n ih = ap (cond (t x) (Some x)) ih
    go false n ih = ih ∙ sym (cond-false (t x) (Some x) (find t xs) (false_from_ne_true _ (λ e. true≢false (sym (n e)))))

-- ---- sums

-- a length is a sum of ones
pub length_ones : {X : Type 0} (xs : List X) → length xs ≡ sum_by (λ (x : X). 1) xs
length_ones [] = refl
length_ones {X} (x ∷ xs) = omega (arith, sum_by-cons (λ (y : X). 1) x xs, length_ones xs)

module _ {X : Type 0} (f : X → ℕ) where
  -- where none passes, nothing is summed
  pub sum_by-none : (p : X → Bool) (xs : List X) → ((x : X) → Contains xs x → p x ≡ false) → sum_by f (filter p xs) ≡ 0
  sum_by-none p [] h = refl
  sum_by-none p (x ∷ xs) h = ap (sum_by f) (cond-false (p x) (x ∷ filter p xs) (filter p xs) (h x (Contains-head x xs))) ∙ sum_by-none p xs (λ y m. h y (Contains-rest x xs y m))

  -- one element adds what it counts, or nothing
  pub sum_by-one : (p : X → Bool) (x : X) → sum_by f (filter p (x ∷ [])) ≤ f x
  sum_by-one p x = go (p x)
    where
      go : (b : Bool) → sum_by f (cond b (x ∷ []) []) ≤ f x
      go true = omega (arith, sum_by-cons f x [])
      go false = omega arith

  one_more : (x : X) (b d q : Bool) (P D Q : List X) → (b ≡ true → q ≡ true) → (d ≡ true → q ≡ true) → (b ≡ true → d ≡ false) → sum_by f P + sum_by f D ≤ sum_by f Q
      → sum_by f (cond b (x ∷ P) P) + sum_by f (cond d (x ∷ D) D) ≤ sum_by f (cond q (x ∷ Q) Q)
  one_more x true true q P D Q h i j s = absurd (true≢false (j refl))
  one_more x true false true P D Q h i j s = omega (arith, s, sum_by-cons f x P, sum_by-cons f x Q)
  one_more x true false false P D Q h i j s = absurd (true≢false (sym (h refl)))
  one_more x false true true P D Q h i j s = omega (arith, s, sum_by-cons f x D, sum_by-cons f x Q)
  one_more x false true false P D Q h i j s = absurd (true≢false (sym (i refl)))
  one_more x false false true P D Q h i j s = omega (arith, s, sum_by-cons f x Q)
  one_more x false false false P D Q h i j s = s

  -- what passes among what is left, and a part that is not left, are parts of a whole
  pub sum_by-parts : (p k d q : X → Bool) (xs : List X) → ((x : X) → Contains xs x → p x ≡ true → q x ≡ true) → ((x : X) → Contains xs x → d x ≡ true → q x ≡ true)
      → ((x : X) → Contains xs x → d x ≡ true → k x ≡ false) → sum_by f (filter p (filter k xs)) + sum_by f (filter d xs) ≤ sum_by f (filter q xs)
  sum_by-parts p k d q [] h i j = omega arith
  sum_by-parts p k d q (x ∷ xs) h i j =
      go (k x) refl (sum_by-parts p k d q xs (λ y m. h y (Contains-rest x xs y m)) (λ y m. i y (Contains-rest x xs y m)) (λ y m. j y (Contains-rest x xs y m)))
    where
      go : (b : Bool) → k x ≡ b → sum_by f (filter p (filter k xs)) + sum_by f (filter d xs) ≤ sum_by f (filter q xs)
          → sum_by f (filter p (cond b (x ∷ filter k xs) (filter k xs))) + sum_by f (cond (d x) (x ∷ filter d xs) (filter d xs)) ≤ sum_by f (cond (q x) (x ∷ filter q xs) (filter q xs))
      go true e s =
          one_more x (p x) (d x) (q x) (filter p (filter k xs)) (filter d xs) (filter q xs) (h x (Contains-head x xs)) (i x (Contains-head x xs))
          (λ _. false_from_ne_true _ (λ t. true≢false (sym e ∙ j x (Contains-head x xs) t))) s
      go false e s =
          one_more x false (d x) (q x) (filter p (filter k xs)) (filter d xs) (filter q xs) (λ n. absurd (true≢false (sym n))) (i x (Contains-head x xs))
          (λ n. absurd (true≢false (sym n))) s

  -- of fewer elements fewer pass a narrower test
  pub sum_by-fewer : (p k q : X → Bool) (xs : List X) → ((x : X) → Contains xs x → p x ≡ true → q x ≡ true) → sum_by f (filter p (filter k xs)) ≤ sum_by f (filter q xs)
  sum_by-fewer p k q xs h = omega (arith, sum_by-parts p k (λ (x : X). false) q xs h (λ x m n. absurd (true≢false (sym n))) (λ x m n. absurd (true≢false (sym n))))

-- ---- lists made of lists

module _ {X : Type 0} (P : X → Type 0) where
  -- what holds of each element of two lists holds of each of either
  pub All-append_parts : (xs ys : List X) → All P (xs ++ ys) → All P xs × All P ys
  All-append_parts [] ys h = (All-nil P, h)
  All-append_parts (x ∷ xs) ys h = let rest = All-append_parts xs ys (All-tail P x (xs ++ ys) h) in (All-cons P x xs (All-head P x (xs ++ ys) h) rest.0, rest.1)

module _ {X Y : Type 0} (f : X → List Y) (P : Y → Type 0) where
  -- at one of the lists
  pub All-flat_map_at : (xs : List X) (x : X) → All P (flat_map f xs) → Contains xs x → All P (f x)
  All-flat_map_at [] x h m = not_in_none x m
  All-flat_map_at (z ∷ xs) x h m =
      let parts = All-append_parts P (f z) (flat_map f xs) h in
      ⊎_elim (λ (e : z ≡ x). subst (λ (w : X). All P (f w)) e parts.0) (λ (k : Contains xs x). All-flat_map_at xs x parts.1 k) (Contains-cons_cases z xs x m)

  -- from each of the lists
  pub All-flat_map : (xs : List X) → ((x : X) → Contains xs x → All P (f x)) → All P (flat_map f xs)
  All-flat_map [] h = All-nil P
  All-flat_map (x ∷ xs) h = All-append P (f x) (flat_map f xs) (h x (Contains-head x xs)) (All-flat_map xs (λ y m. h y (Contains-rest x xs y m)))

  -- of some of the lists
  pub All-flat_map_filter : (k : X → Bool) (xs : List X) → All P (flat_map f xs) → All P (flat_map f (filter k xs))
  All-flat_map_filter k [] h = h
  All-flat_map_filter k (x ∷ xs) h = let parts = All-append_parts P (f x) (flat_map f xs) h in go (k x) parts.0 (All-flat_map_filter k xs parts.1)
    where
      go : (b : Bool) → All P (f x) → All P (flat_map f (filter k xs)) → All P (flat_map f (cond b (x ∷ filter k xs) (filter k xs)))
      go true own rest = All-append P (f x) (flat_map f (filter k xs)) own rest
      go false own rest = rest

-- pairs within each of two lists, and across
pub AllPairs-append_parts : {X : Type 0} (R : X → X → Type 0) (xs ys : List X) → AllPairs R (xs ++ ys) → AllPairs R xs × AllPairs R ys × All (λ x. All (R x) ys) xs
AllPairs-append_parts R [] ys h = (AllPairs-nil R, h, All-nil (λ x. All (R x) ys))
AllPairs-append_parts R (x ∷ xs) ys h =
    let rest = AllPairs-append_parts R xs ys (λ i j d l m. h (suc i) (suc j) d (omega arith) (omega arith)) in
    let head = All-append_parts (R x) xs ys (λ n d l. h 0 (suc n) d (omega arith) (omega arith)) in
    (AllPairs-cons R x xs head.0 rest.0, rest.1, All-cons (λ z. All (R z) ys) x xs head.1 rest.2)

-- pairs within some of the lists, and across
pub AllPairs-flat_map_filter : {X Y : Type 0} (f : X → List Y) (R : Y → Y → Type 0) (k : X → Bool) (xs : List X) → AllPairs R (flat_map f xs) → AllPairs R (flat_map f (filter k xs))
AllPairs-flat_map_filter f R k [] h = h
AllPairs-flat_map_filter {X} f R k (x ∷ xs) h =
    let parts = AllPairs-append_parts R (f x) (flat_map f xs) h in
    go (k x) parts.0 (λ n d l. All-flat_map_filter f (R _) k xs (parts.2 n d l)) (AllPairs-flat_map_filter f R k xs parts.1)
  where
    go : (b : Bool) → AllPairs R (f x) → All (λ y. All (R y) (flat_map f (filter k xs))) (f x) → AllPairs R (flat_map f (filter k xs)) → AllPairs R (flat_map f (cond b (x ∷ filter k xs) (filter k xs)))
    go true own across rest = AllPairs-append R (f x) (flat_map f (filter k xs)) own rest across
    go false own across rest = rest
