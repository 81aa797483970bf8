use Rattle.std.proofs.Common.{length}
use Rattle.gate_query.proofs.listed.+test_each.Given as goal

abbrev pub decreases-test_each : goal.decreases-test_each
decreases-test_each g l = length l.submissions.now
