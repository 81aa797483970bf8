-- What a ranking keeps.
use Rattle.std.specs.Prelude.{◌≤◌, ◌+◌, ℕ, List, length, Option}
use Rattle.std.specs.declared.cmp.Ordering.{Ordering}
use Rattle.gate_ranking.specs.Tournament.{IsPlayed}

-- a played tournament, with a leaf and a slot for each key and for as many more as there is room for
pub record IsKept {K : Type 0} (R : K → K → Ordering) (keys : List (Option K)) (tree : List ℕ) (capacity room : ℕ) : Type 0 where
  pub played : IsPlayed R keys tree
  pub leaves : length keys + room ≤ length tree
  pub slots : length keys + room ≤ capacity
