-- The order of places, and the first of two.
use Rattle.std.proofs.Common.{◌≡◌, ℕ, Bool, true, false, List, Option, Some, None, refl, sym, ap, ◌∙◌, ◌⊎◌, inl, inr, arith, if◌then◌else◌, max}
use Rattle.std.specs.declared.cmp.Ordering.{Ordering}
use Rattle.std.specs.declared.cmp.Ordering.TheVariants.{Less, Equal, Greater}
use Rattle.std.specs.Ordering.{nat_cmp, is_lt, is_gt, ordering_reverse, ordering_then}
use Rattle.std.specs.Cmp.{IsTotalOrder}
use Rattle.std.proofs.lemmas.Cmp.{then_total, on_total, back_total, nat_cmp_total, tied_itself, upto}
use Rattle.std.proofs.lemmas.Bool.Decides.{nat_tests}
use Rattle.std.proofs.lemmas.Bool.{true≢false, false≢true}
use Rattle.gate_ranking.specs.Ranking.{at}
use Rattle.gate_ranking.specs.Tournament.{held_cmp, rank, first_of}

not_lt_back : (o p : Ordering) → p ≡ ordering_reverse o → is_lt o ≡ false → is_gt p ≡ false
not_lt_back Less p e h = absurd (true≢false h)
not_lt_back Equal p e h = ap is_gt e
not_lt_back Greater p e h = ap is_gt e

lt_not_gt : (o : Ordering) → is_lt o ≡ true → is_gt o ≡ false
lt_not_gt Less h = refl
lt_not_gt Equal h = refl
lt_not_gt Greater h = absurd (false≢true h)

module _ {K : Type 0} (R : K → K → Ordering) where
  pub held_total : IsTotalOrder R → IsTotalOrder (held_cmp R)
  held_total o = record { antisymm = opposite; trans = chain; congr = alike }
    where
      opposite : (x y : Option K) → held_cmp R x y ≡ ordering_reverse (held_cmp R y x)
      opposite (Some a) (Some b) = o.antisymm a b
      opposite (Some a) None = refl
      opposite None (Some b) = refl
      opposite None None = refl

      chain : (x y z : Option K) → held_cmp R x y ≡ Less → held_cmp R y z ≡ Less → held_cmp R x z ≡ Less
      chain (Some a) (Some b) (Some c) p q = o.trans a b c p q
      chain (Some a) y None p q = refl
      chain (Some a) None (Some c) p q = cc
      chain None (Some b) z p q = cc
      chain None None z p q = cc

      alike : (x y z : Option K) → held_cmp R x y ≡ Equal → held_cmp R x z ≡ held_cmp R y z
      alike (Some a) (Some b) (Some c) p = o.congr a b c p
      alike (Some a) (Some b) None p = refl
      alike (Some a) None z p = cc
      alike None (Some b) z p = cc
      alike None None z p = refl

  pub rank_total : IsTotalOrder R → (keys : List (Option K)) → IsTotalOrder (rank R keys)
  rank_total o keys = then_total (on_total (λ (place : ℕ). at keys place) (held_total o)) (back_total nat_cmp_total)

  pub first_one : (keys : List (Option K)) (a b : ℕ) → (first_of R keys a b ≡ a) ⊎ (first_of R keys a b ≡ b)
  unfolding first_of
  first_one keys a b = elim (is_lt (rank R keys a b)) as (λ t. ((if t then a else b) ≡ a) ⊎ ((if t then a else b) ≡ b)) [ true ↦ inl refl | false ↦ inr refl ]

  -- where both keys are the same, so is the first
  pub first_same : (xs ys : List (Option K)) (a b : ℕ) → at ys a ≡ at xs a → at ys b ≡ at xs b → first_of R ys a b ≡ first_of R xs a b
  unfolding first_of
  first_same xs ys a b p q = rw (p, q) refl

  -- where each key is equal to the one before it, so is the first
  pub first_alike : IsTotalOrder R → (xs ys : List (Option K)) → ((q : ℕ) → held_cmp R (at xs q) (at ys q) ≡ Equal) → (a b : ℕ) → first_of R ys a b ≡ first_of R xs a b
  unfolding first_of
  first_alike o xs ys e a b =
      let held = held_total o in
      let x = at xs a in
      let y = at xs b in
      let z = at ys a in
      let w = at ys b in
      let left : held_cmp R z w ≡ held_cmp R x w = sym (held.congr x z w (e a)) in
      let back : held_cmp R y x ≡ held_cmp R w x = held.congr y w x (e b) in
      let right : held_cmp R x w ≡ held_cmp R x y = held.antisymm x w ∙ ap ordering_reverse (sym back) ∙ sym (held.antisymm x y) in
      ap (λ r. if is_lt (ordering_then r (nat_cmp b a)) then a else b) (left ∙ right)

  -- the first of two places, by what is held there
  module _ (keys : List (Option K)) (a b : ℕ) where
    larger : (if is_lt (nat_cmp b a) then a else b) ≡ max a b
    larger = grind (arith, nat_tests)

    pub first_less : (x y : K) → Some x ≡ at keys a → Some y ≡ at keys b → Less ≡ R x y → a ≡ first_of R keys a b
    unfolding first_of
    first_less x y p q e = rw (← p, ← q, ← e) refl

    pub first_greater : (x y : K) → Some x ≡ at keys a → Some y ≡ at keys b → Greater ≡ R x y → b ≡ first_of R keys a b
    unfolding first_of
    first_greater x y p q e = rw (← p, ← q, ← e) refl

    pub first_equal : (x y : K) → Some x ≡ at keys a → Some y ≡ at keys b → Equal ≡ R x y → max a b ≡ first_of R keys a b
    unfolding first_of
    first_equal x y p q e = rw (← p, ← q, ← e) (sym larger)

    pub first_held : (x : K) → Some x ≡ at keys a → None ≡ at keys b → a ≡ first_of R keys a b
    unfolding first_of
    first_held x p q = rw (← p, ← q) refl

    pub first_other : (y : K) → None ≡ at keys a → Some y ≡ at keys b → b ≡ first_of R keys a b
    unfolding first_of
    first_other y p q = rw (← p, ← q) refl

    pub first_neither : None ≡ at keys a → None ≡ at keys b → max a b ≡ first_of R keys a b
    unfolding first_of
    first_neither p q = rw (← p, ← q) (sym larger)

  module _ (o : IsTotalOrder R) (keys : List (Option K)) where
    pub first_itself : (a : ℕ) → is_gt (rank R keys a a) ≡ false
    first_itself a = ap is_gt (tied_itself (rank_total o keys) a)

    pub first_left : (a b : ℕ) → is_gt (rank R keys (first_of R keys a b) a) ≡ false
    unfolding first_of
    first_left a b = go (is_lt (rank R keys a b)) refl
      where
        go : (t : Bool) → is_lt (rank R keys a b) ≡ t → is_gt (rank R keys (if t then a else b) a) ≡ false
        go true e = first_itself a
        go false e = not_lt_back (rank R keys a b) (rank R keys b a) ((rank_total o keys).antisymm b a) e

    pub first_right : (a b : ℕ) → is_gt (rank R keys (first_of R keys a b) b) ≡ false
    unfolding first_of
    first_right a b = go (is_lt (rank R keys a b)) refl
      where
        go : (t : Bool) → is_lt (rank R keys a b) ≡ t → is_gt (rank R keys (if t then a else b) b) ≡ false
        go true e = lt_not_gt (rank R keys a b) e
        go false e = first_itself b

    pub not_after : (a b c : ℕ) → is_gt (rank R keys a b) ≡ false → is_gt (rank R keys b c) ≡ false → is_gt (rank R keys a c) ≡ false
    not_after a b c = upto (rank_total o keys) a b c
