-- A tournament of places: each leaf of a tree stands for a place, and each node for the place that ranks first of its children's.
use Rattle.std.specs.Prelude.{◌≡◌, ◌≢◌, ◌<◌, ◌≤◌, ◌+◌, ◌-◌, ◌*◌, ℕ, nat_lt, List, length, Option, Some, None, slice_index_or, if◌then◌else◌}
use Rattle.std.specs.declared.cmp.Ordering.{Ordering}
use Rattle.std.specs.declared.cmp.Ordering.TheVariants.{Less, Equal, Greater}
use Rattle.std.specs.Ordering.{nat_cmp, is_lt, on, flip_args, then_cmp}
use Rattle.gate_ranking.specs.Ranking.{at}

-- the place that a node holds; the nodes past the end of the tree are the leaves, one for each place
abbrev pub place_of : List ℕ → ℕ → ℕ
place_of tree node = if nat_lt node (length tree) then slice_index_or tree node 0 else node - length tree

module _ {K : Type 0} where
  -- keys in their order, and before any empty place
  abbrev pub held_cmp : (K → K → Ordering) → Option K → Option K → Ordering
  held_cmp R (Some a) (Some b) = R a b
  held_cmp R (Some a) None = Less
  held_cmp R None (Some b) = Greater
  held_cmp R None None = Equal

  -- the place of the lesser key first, of equal keys the later
  abbrev pub rank : (K → K → Ordering) → List (Option K) → ℕ → ℕ → Ordering
  rank R keys = then_cmp (on (λ place. at keys place) (held_cmp R)) (flip_args nat_cmp)

  unfoldable pub first_of : (K → K → Ordering) → List (Option K) → ℕ → ℕ → ℕ
  first_of R keys a b = if is_lt (rank R keys a b) then a else b

  abbrev pub IsWon : (K → K → Ordering) → List (Option K) → List ℕ → ℕ → Type 0
  IsWon R keys tree node = place_of tree node ≡ first_of R keys (place_of tree (2 * node)) (place_of tree (2 * node + 1))

  -- each match has been played
  pub record IsPlayed (R : K → K → Ordering) (keys : List (Option K)) (tree : List ℕ) : Type 0 where
    pub won : (node : ℕ) → 1 ≤ node → node < length tree → IsWon R keys tree node

  -- the keys differ at this place alone
  pub record DifferAt (place : ℕ) (before after : List (Option K)) : Type 0 where
    pub same : (q : ℕ) → q ≢ place → at after q ≡ at before q

  -- if all matches had been played before the key at this place changed, all are played again
  pub record IsReplayed (R : K → K → Ordering) (keys : List (Option K)) (place : ℕ) (old new : List ℕ) : Type 0 where
    pub played : (before : List (Option K)) → DifferAt place before keys → IsPlayed R before old → IsPlayed R keys new
