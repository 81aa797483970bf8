use Rattle.std.proofs.Common.{length}
use Rattle.gate_package.proofs.shape.+has_duplicates.Given as goal

abbrev pub decreases-has_duplicates : goal.decreases-has_duplicates
decreases-has_duplicates l = length l.members.now
