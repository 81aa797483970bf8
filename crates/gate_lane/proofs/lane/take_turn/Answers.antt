use Rattle.std.proofs.lemmas.Result.{err_from_is_err_and}
use Rattle.gate_lane.proofs.TurnLemmas.{unread_turn, fault_sent, went_sent, ended_sent, stopped_turn, stopped_long, stopped_full, went_turn, last_turn, long_turn, full_turn, end_turn}
use Rattle.gate_lines.proofs.FirstLines.{OnlyLine, FirstLines-only, FirstLines-whole, LongLine-read}
use Rattle.gate_lane.proofs.lane.take_turn.Goals as goal

pub returns-in_err-next_or_send-clause-taken : goal.returns-in_err-next_or_send-clause-taken
returns-in_err-next_or_send-clause-taken g c =
    let p = err_from_is_err_and c.from_residual.result c.from_residual.ensures.1 in
    rw (p.1, p.2) (unread_turn g.A.Answers.answers c.in_err-next_or_send.field-0.0 _ _ _ _ c.args.room.now.lines c.next_or_send.new.self _ c.in_err-next_or_send.ensures.kept c.in_err-next_or_send.ensures.asked)

pub returns-in_err-respond-in-Whole-clause-taken : goal.returns-in_err-respond-in-Whole-clause-taken
returns-in_err-respond-in-Whole-clause-taken g c =
    let p = err_from_is_err_and c.from_residual-in_err-respond-in-Whole.result c.from_residual-in_err-respond-in-Whole.ensures.1 in
    let asked = rw c.in-Whole.is at c.in_ok-next_or_send.ensures.asked in
    rw (p.1, p.2) (fault_sent g.A.Answers.answers c.in_err-respond-in-Whole.field-0.0 c.args.room.now.lines.count c.next_or_send.new.self.count _ (g.R.Read.remaining c.next_or_send.new.reader) _ (g.W.Write.contents c.next_or_send.new.writer) _ _ _ c.in_ok-next_or_send.ensures.kept
    (stopped_turn g.A.Answers.answers c.in_err-respond-in-Whole.field-0.0 c.args.room.now.lines.count c.next_or_send.new.self.count _ (g.R.Read.remaining c.next_or_send.new.reader) _ _ _ _ c.next_or_send.new.self.line _ asked.1.0 (FirstLines-whole _ _ _ asked.0.0 asked.0.1) asked.0.2 c.line.ensures c.in_err-respond-in-Whole.ensures.taken))

pub returns-in_err-respond-in-Rest-clause-taken : goal.returns-in_err-respond-in-Rest-clause-taken
returns-in_err-respond-in-Rest-clause-taken g c =
    let p = err_from_is_err_and c.from_residual-in_err-respond-in-Rest.result c.from_residual-in_err-respond-in-Rest.ensures.1 in
    let asked = rw c.in-Rest.is at c.in_ok-next_or_send.ensures.asked in
    rw (p.1, p.2) (fault_sent g.A.Answers.answers c.in_err-respond-in-Rest.field-0.0 c.args.room.now.lines.count c.next_or_send.new.self.count _ (g.R.Read.remaining c.next_or_send.new.reader) _ (g.W.Write.contents c.next_or_send.new.writer) _ _ _ c.in_ok-next_or_send.ensures.kept
    (stopped_turn g.A.Answers.answers c.in_err-respond-in-Rest.field-0.0 c.args.room.now.lines.count c.next_or_send.new.self.count _ (g.R.Read.remaining c.next_or_send.new.reader) _ _ _ _ c.next_or_send.new.self.line _ asked.1.0 (FirstLines-only _ _ (OnlyLine _ _ _ asked.0.0 asked.0.1 asked.0.2 asked.0.4)) asked.0.3 c.line-in-Rest.ensures c.in_err-respond-in-Rest.ensures.taken))

pub returns-in_err-write_text-in-TooLong-clause-taken : goal.returns-in_err-write_text-in-TooLong-clause-taken
returns-in_err-write_text-in-TooLong-clause-taken g c =
    let p = err_from_is_err_and c.from_residual-in_err-write_text-in-TooLong.result c.from_residual-in_err-write_text-in-TooLong.ensures.1 in
    let asked = rw c.in-TooLong.is at c.in_ok-next_or_send.ensures.asked in
    rw (p.1, p.2) (fault_sent g.A.Answers.answers c.in_err-write_text-in-TooLong.field-0.0 c.args.room.now.lines.count c.next_or_send.new.self.count _ (g.R.Read.remaining c.next_or_send.new.reader) _ (g.W.Write.contents c.next_or_send.new.writer) _ _ _ c.in_ok-next_or_send.ensures.kept
    (stopped_long g.A.Answers.answers c.in_err-write_text-in-TooLong.field-0.0 c.args.room.now.lines.count c.next_or_send.new.self.count _ (g.R.Read.remaining c.next_or_send.new.reader) _ _ _ asked.1 (LongLine-read _ _ _ asked.0.1 asked.0.2 asked.0.3) c.in_err-write_text-in-TooLong.ensures.written))

pub returns-in_err-write_text-in-TooMany-clause-taken : goal.returns-in_err-write_text-in-TooMany-clause-taken
returns-in_err-write_text-in-TooMany-clause-taken g c =
    let p = err_from_is_err_and c.from_residual-in_err-write_text-in-TooMany.result c.from_residual-in_err-write_text-in-TooMany.ensures.1 in
    let asked = rw c.in-TooMany.is at c.in_ok-next_or_send.ensures.asked in
    rw (p.1, p.2) (fault_sent g.A.Answers.answers c.in_err-write_text-in-TooMany.field-0.0 c.args.room.now.lines.count c.next_or_send.new.self.count _ (g.R.Read.remaining c.next_or_send.new.reader) _ (g.W.Write.contents c.next_or_send.new.writer) _ _ _ c.in_ok-next_or_send.ensures.kept
    (stopped_full g.A.Answers.answers c.in_err-write_text-in-TooMany.field-0.0 c.args.room.now.lines.count c.next_or_send.new.self.count _ (g.R.Read.remaining c.next_or_send.new.reader) _ _ _ asked.1 asked.0 c.in_err-write_text-in-TooMany.ensures.written))

pub returns-in_ok-respond-in-Whole-clause-taken : goal.returns-in_ok-respond-in-Whole-clause-taken
returns-in_ok-respond-in-Whole-clause-taken g c =
    let asked = rw c.in-Whole.is at c.in_ok-next_or_send.ensures.asked in
    let did = rw c.line.ensures at c.in_ok-respond-in-Whole.ensures.taken in
    went_sent g.A.Answers.answers c.args.room.now.lines.count c.next_or_send.new.self.count _ (g.R.Read.remaining c.next_or_send.new.reader) _ (g.W.Write.contents c.next_or_send.new.writer) _ _ _ _ c.in_ok-next_or_send.ensures.kept
    (went_turn g.A.Answers.answers c.args.room.now.lines.count c.next_or_send.new.self.count _ (g.R.Read.remaining c.next_or_send.new.reader) _ _ _ _ c.next_or_send.new.self.line _ asked.1.0 asked.1.1 asked.0.0 asked.0.1 asked.0.2 did)

pub returns-in_ok-respond-in-Rest-clause-taken : goal.returns-in_ok-respond-in-Rest-clause-taken
returns-in_ok-respond-in-Rest-clause-taken g c =
    let asked = rw c.in-Rest.is at c.in_ok-next_or_send.ensures.asked in
    let did = rw c.line-in-Rest.ensures at c.in_ok-respond-in-Rest.ensures.taken in
    ended_sent g.A.Answers.answers c.args.room.now.lines.count c.next_or_send.new.self.count _ (g.R.Read.remaining c.next_or_send.new.reader) _ (g.W.Write.contents c.next_or_send.new.writer) _ _ _ _ c.in_ok-next_or_send.ensures.kept
    (last_turn g.A.Answers.answers c.args.room.now.lines.count c.next_or_send.new.self.count _ (g.R.Read.remaining c.next_or_send.new.reader) _ _ _ _ c.next_or_send.new.self.line _ asked.1.0 (OnlyLine _ _ _ asked.0.0 asked.0.1 asked.0.2 asked.0.4) asked.0.3 did)

pub returns-in-End-clause-taken : goal.returns-in-End-clause-taken
returns-in-End-clause-taken g c =
    let asked = rw c.in-End.is at c.in_ok-next_or_send.ensures.asked in
    ended_sent g.A.Answers.answers c.args.room.now.lines.count c.next_or_send.new.self.count _ (g.R.Read.remaining c.next_or_send.new.reader) _ (g.W.Write.contents c.next_or_send.new.writer) _ _ _ _ c.in_ok-next_or_send.ensures.kept (end_turn g.A.Answers.answers c.args.room.now.lines.count c.next_or_send.new.self.count _ (g.R.Read.remaining c.next_or_send.new.reader) _ _ asked.0.0 asked.0.1)

pub returns-in_ok-write_text-in-TooLong-clause-taken : goal.returns-in_ok-write_text-in-TooLong-clause-taken
returns-in_ok-write_text-in-TooLong-clause-taken g c =
    let asked = rw c.in-TooLong.is at c.in_ok-next_or_send.ensures.asked in
    ended_sent g.A.Answers.answers c.args.room.now.lines.count c.next_or_send.new.self.count _ (g.R.Read.remaining c.next_or_send.new.reader) _ (g.W.Write.contents c.next_or_send.new.writer) _ _ _ _ c.in_ok-next_or_send.ensures.kept
    (long_turn g.A.Answers.answers c.args.room.now.lines.count c.next_or_send.new.self.count _ (g.R.Read.remaining c.next_or_send.new.reader) _ _ _ asked.1 (LongLine-read _ _ _ asked.0.1 asked.0.2 asked.0.3) c.in_ok-write_text-in-TooLong.ensures.written)

pub returns-in_ok-write_text-in-TooMany-clause-taken : goal.returns-in_ok-write_text-in-TooMany-clause-taken
returns-in_ok-write_text-in-TooMany-clause-taken g c =
    let asked = rw c.in-TooMany.is at c.in_ok-next_or_send.ensures.asked in
    ended_sent g.A.Answers.answers c.args.room.now.lines.count c.next_or_send.new.self.count _ (g.R.Read.remaining c.next_or_send.new.reader) _ (g.W.Write.contents c.next_or_send.new.writer) _ _ _ _ c.in_ok-next_or_send.ensures.kept
    (full_turn g.A.Answers.answers c.args.room.now.lines.count c.next_or_send.new.self.count _ (g.R.Read.remaining c.next_or_send.new.reader) _ _ _ asked.1 asked.0 c.in_ok-write_text-in-TooMany.ensures.written)
