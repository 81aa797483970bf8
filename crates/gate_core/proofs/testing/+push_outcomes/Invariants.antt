use Rattle.std.proofs.Common.{length}
use Rattle.gate_core.proofs.testing.+push_outcomes.Given as goal

abbrev pub decreases-push_outcomes : goal.decreases-push_outcomes
decreases-push_outcomes l = length l.these.now
