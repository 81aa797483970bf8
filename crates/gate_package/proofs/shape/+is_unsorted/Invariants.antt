use Rattle.std.proofs.Common.{length}
use Rattle.gate_package.proofs.shape.+is_unsorted.Given as goal

abbrev pub decreases-is_unsorted : goal.decreases-is_unsorted
decreases-is_unsorted l = length l.members.now
