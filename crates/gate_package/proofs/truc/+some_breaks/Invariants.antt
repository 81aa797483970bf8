use Rattle.std.proofs.Common.{length}
use Rattle.gate_package.proofs.truc.+some_breaks.Given as goal

abbrev pub decreases-some_breaks : goal.decreases-some_breaks
decreases-some_breaks g l = length l.these.now
