use Rattle.std.proofs.Common.{length, ◌-◌}
use Rattle.gate_try.proofs.reading.read_trial.Given as goal

abbrev pub decreases-loop-place : goal.decreases-loop-place
decreases-loop-place l = length l.words - l.place
