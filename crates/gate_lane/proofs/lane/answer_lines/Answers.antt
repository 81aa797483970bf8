use Rattle.std.proofs.Common.{ap}
use Rattle.std.proofs.lemmas.Result.{err_from_is_err_and}
use Rattle.gate_lines.specs.Counting.{LastLine}
use Rattle.gate_lane.proofs.SoFar.{SoFar-start, SoFar-went, SoFar-ended, SoFar-fault}
use Rattle.gate_lane.proofs.lane.answer_lines.Goals as goal

pub loop-room-init : goal.loop-room-init
loop-room-init g c = SoFar-start g.A.Answers.answers _ _ _ _ (ap (λ (l : LastLine). l.count) c.new.ensures)

pub returns-in_err-replies-clause-came : goal.returns-in_err-replies-clause-came
returns-in_err-replies-clause-came g c =
    let p = err_from_is_err_and c.from_residual.result c.from_residual.ensures.1 in
    rw (p.1, p.2) (SoFar-fault g.A.Answers.answers c.in_err-replies.field-0.0 c.loop-room.room.lines.count c.take_turn.new.room.lines.count _ (g.R.Read.remaining c.loop-room.reader) _ _ _ _ _ _ _ c.loop-room.count c.loop-room.invariant c.in_err-replies.ensures.taken)

pub returns-in-Ended-clause-came : goal.returns-in-Ended-clause-came
returns-in-Ended-clause-came g c =
    SoFar-ended g.A.Answers.answers c.loop-room.room.lines.count c.take_turn.new.room.lines.count _ (g.R.Read.remaining c.loop-room.reader) (g.R.Read.remaining c.take_turn.new.reader) _ _ _ _ _ _ c.loop-room.count _ c.loop-room.invariant (rw c.in-Ended.is at c.in_ok-replies.ensures.taken)

pub loop-room-preserved : goal.loop-room-preserved
loop-room-preserved g c =
    SoFar-went g.A.Answers.answers c.loop-room.room.lines.count _ _ _ _ _ _ _ _ _ _ c.loop-room.count _ c.loop-room.invariant (rw c.in-Went.is at c.in_ok-replies.ensures.taken)
