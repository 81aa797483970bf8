use Rattle.std.proofs.Common.{◌-◌}
use Rattle.gate_lines.specs.Lines.{count_limit}
use Rattle.gate_split.specs.Splitting.{so_far}
use Rattle.gate_split.proofs.Splits.{SplitSoFar}
use Rattle.gate_split.proofs.split.take_lines.Given as goal

abbrev pub invariant-loop-lines : goal.invariant-loop-lines
invariant-loop-lines g l = SplitSoFar l.lines.count (g.R.Read.remaining l.initial.reader) (g.R.Read.remaining l.reader) (so_far l.rounds)

abbrev pub decreases-loop-lines : goal.decreases-loop-lines
decreases-loop-lines g l = count_limit - l.lines.count
