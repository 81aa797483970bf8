use Rattle.std.proofs.Common.{length}
use Rattle.gate_package.proofs.submitting.+push_denied.Given as goal

abbrev pub decreases-push_denied : goal.decreases-push_denied
decreases-push_denied l = length l.candidates.now
