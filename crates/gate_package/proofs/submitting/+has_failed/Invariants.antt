use Rattle.std.proofs.Common.{length}
use Rattle.gate_package.proofs.submitting.+has_failed.Given as goal

abbrev pub decreases-has_failed : goal.decreases-has_failed
decreases-has_failed l = length l.candidates.now
