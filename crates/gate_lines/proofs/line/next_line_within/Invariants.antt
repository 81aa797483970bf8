use Rattle.std.proofs.Common.{◌-◌, length}
use Rattle.gate_lines.proofs.PartLemmas.{Held}
use Rattle.gate_lines.proofs.line.next_line_within.Given as goal

abbrev pub invariant-loop-line : goal.invariant-loop-line
invariant-loop-line g l = Held l.fn.most (g.R.Read.remaining l.initial.reader) (g.R.Read.remaining l.reader) l.line.items

abbrev pub decreases-loop-line : goal.decreases-loop-line
decreases-loop-line g l = l.fn.most - length l.line.items
