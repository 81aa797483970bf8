use Rattle.std.proofs.Common.{◌-◌}
use Rattle.gate_lines.specs.Lines.{count_limit}
use Rattle.gate_audit.proofs.SoFar.{SoFar}
use Rattle.gate_audit.proofs.auditing.audit_entries.Given as goal

abbrev pub invariant-loop-lines : goal.invariant-loop-lines
invariant-loop-lines g l = SoFar l.fn.state (g.R.Read.remaining l.initial.reader) (g.R.Read.remaining l.reader) l.lines.lines.count l.lines.has_ended l.state l.counts.all l.counts.in_round

abbrev pub decreases-loop-lines : goal.decreases-loop-lines
decreases-loop-lines g l = count_limit - l.lines.lines.count
