use Rattle.gate_ranking.proofs.Replaying.{IsReplaying}
use Rattle.gate_ranking.proofs.tournament.replay.Given as goal

abbrev pub invariant-loop-node : goal.invariant-loop-node
invariant-loop-node g l = IsReplaying g.K.Ord.cmp l.keys l.place l.fn.tree l.tree l.node

abbrev pub decreases-loop-node : goal.decreases-loop-node
decreases-loop-node g l = l.node
