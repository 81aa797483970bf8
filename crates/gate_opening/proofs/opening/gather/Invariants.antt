use Rattle.std.proofs.Common.{◌-◌}
use Rattle.gate_lines.specs.Lines.{count_limit}
use Rattle.gate_opening.proofs.Heard.{Heard}
use Rattle.gate_opening.proofs.opening.gather.Given as goal

abbrev pub invariant-loop-lines : goal.invariant-loop-lines
invariant-loop-lines g l = Heard l.lines.count (g.R.Read.remaining l.initial.reader) (g.R.Read.remaining l.reader) l.draft

abbrev pub decreases-loop-lines : goal.decreases-loop-lines
decreases-loop-lines g l = count_limit - l.lines.count
