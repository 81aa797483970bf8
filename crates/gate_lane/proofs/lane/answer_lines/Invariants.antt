use Rattle.std.proofs.Common.{◌-◌}
use Rattle.gate_lane.proofs.SoFar.{SoFar}
use Rattle.gate_lane.proofs.lane.answer_lines.Given as goal
use Rattle.gate_lines.specs.Lines.{count_limit}

abbrev pub invariant-loop-room : goal.invariant-loop-room
invariant-loop-room g l = SoFar g.A.Answers.answers l.room.lines.count (g.R.Read.remaining l.initial.reader) (g.R.Read.remaining l.reader) (g.W.Write.contents l.initial.writer) (g.W.Write.contents l.writer) l.initial.value l.value l.count

abbrev pub decreases-loop-room : goal.decreases-loop-room
decreases-loop-room g l = count_limit - l.room.lines.count
