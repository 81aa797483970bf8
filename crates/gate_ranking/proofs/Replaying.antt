-- The matches of a place are played again, from its leaf up.
use Rattle.std.proofs.Common.{◌≡◌, ◌≢◌, ℕ, ◌+◌, ◌*◌, ◌/◌, ◌<◌, ◌≤◌, List, length, set, Option, refl, sym, subst, ◌∙◌, ◌⊎◌, inl, inr, ⊎_elim, arith}
use Rattle.std.specs.declared.cmp.Ordering.{Ordering}
use Rattle.std.proofs.lemmas.Bool.{cases_lt, cases_eq}
use Rattle.std.proofs.lemmas.List.{length-set}
use Rattle.gate_ranking.specs.Tournament.{place_of, first_of, IsWon, IsPlayed, DifferAt, IsReplayed}
use Rattle.gate_ranking.proofs.Ranks.{first_same}
use Rattle.gate_ranking.proofs.Climbing.{IsAbove, above_le, above_half, above_peel, above_self, above_node, ladder}
use Rattle.gate_ranking.proofs.Playing.{set_place, other_place, under, wins_below}

module _ {K : Type 0} where
  -- the matches below a node have been played again, and it is the next
  pub record IsReplaying (R : K → K → Ordering) (keys : List (Option K)) (place : ℕ) (old tree : List ℕ) (node : ℕ) : Type 0 where
    pub len : length tree ≡ length old
    pub inner : node < length tree
    pub on_way : IsAbove node (length old + place)
    pub kept : (k : ℕ) → k < 2 * node → place_of tree k ≡ place_of old k
    pub won : (before : List (Option K)) → DifferAt place before keys → IsPlayed R before old → (k : ℕ) → 1 ≤ k → k < length tree → IsAbove k node ⊎ IsWon R keys tree k

  module _ (R : K → K → Ordering) (keys : List (Option K)) (place : ℕ) (old : List ℕ) where
    -- a match between other places has the winner that it had
    still : (before : List (Option K)) → DifferAt place before keys → (node : ℕ) → IsWon R before old node → place_of old (2 * node) ≢ place → place_of old (2 * node + 1) ≢ place → IsWon R keys old node
    still before d node w p q = w ∙ sym (first_same R before keys (place_of old (2 * node)) (place_of old (2 * node + 1)) (d.same _ p) (d.same _ q))

    first_above : (before : List (Option K)) → IsPlayed R before old → place < length old → (k c : ℕ) → 1 ≤ k → k < length old → c / 2 ≡ k → c < 2 * length old → place_of old c ≡ place → IsAbove k ((length old + place) / 2)
    first_above before played h k c lo hi e l w =
        let a = subst (λ p. IsAbove c (length old + p)) w (under R before old played c (omega arith) l) in
        let b = subst (λ n. IsAbove n (length old + place)) e (above_half c (length old + place) a) in
        ⊎_elim (λ (s : length old + place ≡ k). absurd (omega arith)) (λ t. t) (above_peel k (length old + place) b)

    pub replaying_start : place < length old → IsReplaying R keys place old old ((length old + place) / 2)
    replaying_start h = record {
      len = refl;
      inner = omega arith;
      on_way = above_node ((length old + place) / 2) (length old + place) refl;
      kept = λ k l. refl;
      won = λ before d played k lo hi.
          ⊎_elim
          (λ (p : place_of old (2 * k) ≡ place). inl (first_above before played h k (2 * k) lo hi (omega arith) (omega arith) p))
          (λ (p : place_of old (2 * k) ≢ place). ⊎_elim
          (λ (q : place_of old (2 * k + 1) ≡ place). inl (first_above before played h k (2 * k + 1) lo hi (omega arith) (omega arith) q))
          (λ (q : place_of old (2 * k + 1) ≢ place). inr (still before d k (played.won k lo hi) p q))
          (cases_eq (place_of old (2 * k + 1)) place))
          (cases_eq (place_of old (2 * k)) place);
    }

    module _ (tree : List ℕ) (node winner : ℕ) (lo : 1 ≤ node) (so_far : IsReplaying R keys place old tree node) (wins : winner ≡ first_of R keys (place_of tree (2 * node)) (place_of tree (2 * node + 1))) where
      moved : (k : ℕ) → k ≢ node → place_of (set tree node winner) k ≡ place_of tree k
      moved k ne = other_place tree node winner so_far.inner k ne

      fresh : IsWon R keys (set tree node winner) node
      fresh =
          set_place tree node winner so_far.inner ∙ wins
          ∙ sym ((λ i. first_of R keys (moved (2 * node) (omega arith) i) (moved (2 * node + 1) (omega arith) i)))

      carried : (k : ℕ) → k ≢ node → 2 * k ≢ node → 2 * k + 1 ≢ node → IsWon R keys tree k → IsWon R keys (set tree node winner) k
      carried k a b c w = moved k a ∙ w ∙ sym ((λ i. first_of R keys (moved (2 * k) b i) (moved (2 * k + 1) c i)))

      won_now : (k : ℕ) → IsAbove k node ⊎ IsWon R keys tree k → IsAbove k (node / 2) ⊎ IsWon R keys (set tree node winner) k
      won_now k h = ⊎_elim
          (λ (e : k ≡ node). inr (subst (IsWon R keys (set tree node winner)) (sym e) fresh))
          (λ (ne : k ≢ node). ⊎_elim
          (λ (a : IsAbove k node). ⊎_elim (λ (s : node ≡ k). absurd (ne (sym s))) (λ t. inl t) (above_peel k node a))
          (λ (w : IsWon R keys tree k). ⊎_elim
          (λ (e : k ≡ node / 2). inl (above_self k (node / 2) e))
          (λ (n : k ≢ node / 2). inr (carried k ne (λ e. n (omega arith)) (λ e. n (omega arith)) w))
          (cases_eq k (node / 2)))
          h)
          (cases_eq k node)

      pub replaying_more : IsReplaying R keys place old (set tree node winner) (node / 2)
      replaying_more =
          let same = length-set tree node winner in
          record {
            len = same ∙ so_far.len;
            inner = omega (arith, so_far.inner);
            on_way = above_half node (length old + place) so_far.on_way;
            kept = λ k l. moved k (omega arith) ∙ so_far.kept k (omega arith);
            won = λ before d played k low high. won_now k (so_far.won before d played k low (omega arith));
          }

      -- the node's place neither changes nor is the one whose key did: so all above stands
      module _ (other : winner ≢ place) (same : winner ≡ place_of tree node) (before : List (Option K)) (d : DifferAt place before keys) (played : IsPlayed R before old) where
        not_place : (k c : ℕ) → 1 ≤ k → IsAbove k (node / 2) → c / 2 ≡ k → place_of old c ≢ place
        not_place k c low a e w =
            let l = above_le k (node / 2) a in
            let long = so_far.len in
            let inside = so_far.inner in
            let short : c < 2 * length old = omega arith in
            let c_above = subst (λ p. IsAbove c (length old + p)) w (under R before old played c (omega arith) short) in
            let reach : IsAbove c node = ⊎_elim
            (λ (less : node < c). let back = ladder node c (length old + place) so_far.on_way c_above (omega arith) in ⊎_elim (λ (s : c ≡ node). absurd (omega arith)) (λ t. let u = above_le node (c / 2) t in absurd (omega arith)) (above_peel node c back))
            (λ (less : c ≤ node). ladder c node (length old + place) c_above so_far.on_way less)
            (cases_lt node c) in
            let at_node = wins_below R before old played c node place (omega arith) (omega arith) reach so_far.on_way w in
            other (same ∙ so_far.kept node (omega arith) ∙ at_node)

        kept_above : (k : ℕ) → 1 ≤ k → k < length tree → IsAbove k (node / 2) → IsWon R keys tree k
        kept_above k low high a =
            let l = above_le k (node / 2) a in
            let was = still before d k (played.won k low (omega (arith, so_far.len))) (not_place k (2 * k) low a (omega arith)) (not_place k (2 * k + 1) low a (omega arith)) in
            so_far.kept k (omega arith) ∙ was ∙ sym ((λ i. first_of R keys (so_far.kept (2 * k) (omega arith) i) (so_far.kept (2 * k + 1) (omega arith) i)))

        at_stop : (k : ℕ) → 1 ≤ k → k < length tree → IsAbove k node ⊎ IsWon R keys tree k → IsWon R keys tree k
        at_stop k low high (inr w) = w
        at_stop k low high (inl a) = ⊎_elim
            (λ (e : node ≡ k). subst (IsWon R keys tree) e (sym same ∙ wins))
            (λ t. kept_above k low high t)
            (above_peel k node a)

      pub replaying_stop : winner ≢ place → winner ≡ place_of tree node → IsReplayed R keys place old tree
      replaying_stop other same = record { played = λ before d played. record { won = λ k low high. at_stop other same before d played k low high (so_far.won before d played k low high) } }

    pub replaying_end : (tree : List ℕ) (node : ℕ) → node ≡ 0 → IsReplaying R keys place old tree node → IsReplayed R keys place old tree
    replaying_end tree node z h = record {
      played = λ before d played. record {
        won = λ k low high.
            ⊎_elim (λ (a : IsAbove k node). let l = above_le k node a in absurd (omega arith)) (λ w. w) (h.won before d played k low high);
      };
    }
