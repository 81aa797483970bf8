use Rattle.std.proofs.Common.{ℕ, ◌≤◌, ◌<◌, length}
use Rattle.gate_ranking.specs.Tournament.{IsWon}
use Rattle.gate_ranking.proofs.tournament.play.Given as goal

abbrev pub invariant-loop-node : goal.invariant-loop-node
invariant-loop-node g l = record {
  won : (k : ℕ) → 1 ≤ k → l.node ≤ k → k < length l.tree → IsWon g.K.Ord.cmp l.keys l.tree k;
  below : l.node ≤ length l.tree;
}

abbrev pub decreases-loop-node : goal.decreases-loop-node
decreases-loop-node g l = l.node
