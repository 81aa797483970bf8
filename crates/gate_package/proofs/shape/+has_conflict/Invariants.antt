use Rattle.std.proofs.Common.{length}
use Rattle.gate_package.proofs.shape.+has_conflict.Given as goal

abbrev pub decreases-has_conflict : goal.decreases-has_conflict
decreases-has_conflict l = length l.members.now
