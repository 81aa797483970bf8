use Rattle.std.proofs.Common.{◌-◌}
use Rattle.gate_lines.specs.Lines.{count_limit}
use Rattle.gate_audit.proofs.AskingTaken.{Skipped}
use Rattle.gate_audit.proofs.lines.JournalLines.next_significant_line.Given as goal

abbrev pub invariant-loop-self : goal.invariant-loop-self
invariant-loop-self g l = Skipped (g.R.Read.remaining l.initial.reader) (g.R.Read.remaining l.reader) l.initial.self.lines.count l.self.lines.count l.initial.self.has_ended l.self.has_ended

abbrev pub decreases-loop-self : goal.decreases-loop-self
decreases-loop-self g l = count_limit - l.self.lines.count
