-- What a played tournament says, and what playing a match again leaves.
use Rattle.std.proofs.Common.{◌≡◌, ◌≢◌, ℕ, ◌+◌, ◌-◌, ◌*◌, ◌/◌, ◌<◌, ◌≤◌, zero, suc, false, List, length, set, get_or, Option, refl, sym, ap, subst, ◌∙◌, ◌⊎◌, inl, inr, ⊎_elim, arith}
use Rattle.std.specs.declared.cmp.Ordering.{Ordering}
use Rattle.std.specs.Ordering.{is_gt}
use Rattle.std.specs.Cmp.{IsTotalOrder}
use Rattle.std.proofs.lemmas.Bool.{cases_lt, cases_eq, lt-ltb, le-ltb}
use Rattle.std.proofs.lemmas.List.{get_or-set_same, get_or-set_other, length-set}
use Rattle.gate_ranking.specs.Tournament.{place_of, rank, first_of, IsWon, IsPlayed}
use Rattle.gate_ranking.proofs.Ranks.{first_one, first_itself, first_left, first_right, not_after}
use Rattle.gate_ranking.proofs.Climbing.{IsAbove, here, up, above_le, above_half, above_self, siblings}

pub inner_place : (tree : List ℕ) (node : ℕ) → node < length tree → place_of tree node ≡ get_or tree node 0
inner_place tree node h = rw (lt-ltb node (length tree) h) refl

pub leaf_place : (tree : List ℕ) (node : ℕ) → length tree ≤ node → place_of tree node ≡ node - length tree
leaf_place tree node h = rw (le-ltb node (length tree) h) refl

-- the first n nodes stand for the same places
pub record AreKept (n : ℕ) (old new : List ℕ) : Type 0 where
  pub len : length new ≡ length old
  pub kept : (node : ℕ) → node < n → place_of new node ≡ place_of old node

module _ (tree : List ℕ) (node place : ℕ) (h : node < length tree) where
  pub set_place : place_of (set tree node place) node ≡ place
  set_place = inner_place (set tree node place) node (omega (arith, length-set tree node place)) ∙ get_or-set_same tree node place 0 h

  pub other_place : (k : ℕ) → k ≢ node → place_of (set tree node place) k ≡ place_of tree k
  other_place k ne = ⊎_elim
      (λ (l : k < length tree). inner_place (set tree node place) k (omega (arith, length-set tree node place)) ∙ get_or-set_other tree node k place 0 ne ∙ sym (inner_place tree k l))
      (λ (l : length tree ≤ k). leaf_place (set tree node place) k (omega (arith, length-set tree node place)) ∙ ap (λ n. k - n) (length-set tree node place) ∙ sym (leaf_place tree k l))
      (cases_lt k (length tree))

module _ {K : Type 0} (R : K → K → Ordering) where
  -- a match won by one of the two
  won_by : (keys : List (Option K)) (tree : List ℕ) (node : ℕ) → IsWon R keys tree node → (place_of tree node ≡ place_of tree (2 * node)) ⊎ (place_of tree node ≡ place_of tree (2 * node + 1))
  won_by keys tree node w = ⊎_elim (λ e. inl (w ∙ e)) (λ e. inr (w ∙ e)) (first_one R keys (place_of tree (2 * node)) (place_of tree (2 * node + 1)))

  module _ (keys : List (Option K)) (tree : List ℕ) (played : IsPlayed R keys tree) where
    leaf_under : (node : ℕ) → length tree ≤ node → IsAbove node (length tree + place_of tree node)
    leaf_under node l = above_self node (length tree + place_of tree node) (let e = leaf_place tree node l in omega arith)

    from : (node child : ℕ) → child / 2 ≡ node → IsAbove child (length tree + place_of tree child) → place_of tree node ≡ place_of tree child → IsAbove node (length tree + place_of tree node)
    from node child e a s = subst (λ p. IsAbove node (length tree + p)) (sym s) (subst (λ n. IsAbove n (length tree + place_of tree child)) e (above_half child (length tree + place_of tree child) a))

    -- a node is above the leaf of the place that it stands for
    under_by : (fuel node : ℕ) → 2 * length tree ≤ node + fuel → 1 ≤ node → node < 2 * length tree → IsAbove node (length tree + place_of tree node)
    under_by zero node f lo hi = absurd (omega arith)
    under_by (suc fuel) node f lo hi = ⊎_elim
        (λ (l : node < length tree). ⊎_elim
        (from node (2 * node) (omega arith) (under_by fuel (2 * node) (omega arith) (omega arith) (omega arith)))
        (from node (2 * node + 1) (omega arith) (under_by fuel (2 * node + 1) (omega arith) (omega arith) (omega arith)))
        (won_by keys tree node (played.won node lo l)))
        (leaf_under node)
        (cases_lt node (length tree))

    pub under : (node : ℕ) → 1 ≤ node → node < 2 * length tree → IsAbove node (length tree + place_of tree node)
    under node lo hi = under_by (2 * length tree) node (omega arith) lo hi

    -- of the two children, the one above the winner's leaf won
    child_wins : (node place : ℕ) → 2 ≤ node → node < 2 * length tree → IsAbove node (length tree + place) → place_of tree (node / 2) ≡ place → place_of tree node ≡ place
    child_wins node place lo hi a w =
        let half = node / 2 in
        let m = length tree in
        ⊎_elim (by (2 * half) (omega arith) (omega arith)) (by (2 * half + 1) (omega arith) (omega arith)) (won_by keys tree half (played.won half (omega arith) (omega arith)))
      where
        by : (child : ℕ) → child / 2 ≡ node / 2 → child < 2 * length tree → place_of tree (node / 2) ≡ place_of tree child → place_of tree node ≡ place
        by child e l s =
            let is : place_of tree child ≡ place = sym s ∙ w in
            let above = subst (λ p. IsAbove child (length tree + p)) is (under child (omega arith) l) in
            ap (place_of tree) (siblings node child (length tree + place) a above (sym e) (omega arith)) ∙ is

    -- what stands for a place does so from its leaf on without a gap
    pub wins_below : (top node place : ℕ) → 1 ≤ top → node < 2 * length tree → IsAbove top node → IsAbove node (length tree + place) → place_of tree top ≡ place → place_of tree node ≡ place
    wins_below top node place lo hi here b w = w
    wins_below top node place lo hi (up n a) b w =
        let l = above_le top (node / 2) a in
        child_wins node place (omega arith) hi b (wins_below top (node / 2) place lo (omega arith) a (above_half node (length tree + place) b) w)

    module _ (o : IsTotalOrder R) where
      beats_half : (node : ℕ) → 2 ≤ node → node < 2 * length tree → is_gt (rank R keys (place_of tree (node / 2)) (place_of tree node)) ≡ false
      beats_half node lo hi =
          let half = node / 2 in
          let won = played.won half (omega arith) (omega arith) in
          let a = place_of tree (2 * half) in
          let b = place_of tree (2 * half + 1) in
          ⊎_elim
          (λ (e : node ≡ 2 * half). subst (λ p. is_gt (rank R keys p (place_of tree node)) ≡ false) (sym won) (subst (λ n. is_gt (rank R keys (first_of R keys a b) (place_of tree n)) ≡ false) (sym e) (first_left R o keys a b)))
          (λ (n : node ≡ 2 * half → ⊥). let e : node ≡ 2 * half + 1 = omega arith in subst (λ p. is_gt (rank R keys p (place_of tree node)) ≡ false) (sym won) (subst (λ n. is_gt (rank R keys (first_of R keys a b) (place_of tree n)) ≡ false) (sym e) (first_right R o keys a b)))
          (cases_eq node (2 * half))

      -- no node stands for a place that ranks before that of the root
      beats_by : (fuel node : ℕ) → node ≤ fuel → 1 ≤ node → node < 2 * length tree → is_gt (rank R keys (place_of tree 1) (place_of tree node)) ≡ false
      beats_by zero node f lo hi = absurd (omega arith)
      beats_by (suc fuel) node f lo hi = ⊎_elim
          (λ (l : node < 2). let e : 1 ≡ node = omega arith in subst (λ n. is_gt (rank R keys (place_of tree 1) (place_of tree n)) ≡ false) e (first_itself R o keys (place_of tree 1)))
          (λ (l : 2 ≤ node). not_after R o keys (place_of tree 1) (place_of tree (node / 2)) (place_of tree node) (beats_by fuel (node / 2) (omega arith) (omega arith) (omega arith)) (beats_half node l hi))
          (cases_lt node 2)

      pub beats : (place : ℕ) → place < length tree → is_gt (rank R keys (place_of tree 1) place) ≡ false
      beats place h =
          let leaf = length tree + place in
          let is : place_of tree leaf ≡ place = (let e = leaf_place tree leaf (omega arith) in omega arith) in
          subst (λ p. is_gt (rank R keys (place_of tree 1) p) ≡ false) is (beats_by leaf leaf (omega arith) (omega arith) (omega arith))
