use Rattle.std.proofs.Common.{sym}
use Rattle.std.proofs.lemmas.Result.{err_from_is_err_and}
use Rattle.gate_opening.proofs.Steps.{step_fault, step_rest, rest_said, step_past, step_unread, not_unread}
use Rattle.gate_lines.proofs.FirstLines.{OnlyLine, FirstLines-only, FirstLines-whole}
use Rattle.gate_opening.proofs.opening.take_step.Goals as goal

pub returns-in_err-next-clause-taken : goal.returns-in_err-next-clause-taken
returns-in_err-next-clause-taken g c =
    let p = err_from_is_err_and c.from_residual.result c.from_residual.ensures.1 in
    rw (p.1, p.2) (step_unread c.in_err-next.field-0.0 c.args.lines.now.count _ _ _ c.args.lines.now c.next.new.self c.in_err-next.ensures.taken)

pub returns-in_err-next-clause-steady : goal.returns-in_err-next-clause-steady
returns-in_err-next-clause-steady g c = λ steady.
    let p = err_from_is_err_and c.from_residual.result c.from_residual.ensures.1 in
    rw (p.1, p.2) (not_unread c.in_err-next.field-0.0 _ _ c.args.lines.now c.next.new.self c.in_err-next.ensures.taken (c.in_err-next.ensures.steady steady))

pub returns-in_err-take-in-Whole-clause-taken : goal.returns-in_err-take-in-Whole-clause-taken
returns-in_err-take-in-Whole-clause-taken g c =
    let p = err_from_is_err_and c.from_residual-in_err-take-in-Whole.result c.from_residual-in_err-take-in-Whole.ensures.1 in
    let read = rw c.in-Whole.is at c.in_ok-next.ensures.taken in
    let open' = rw c.line.ensures at c.if-ends_opening.ensures in
    let takes = rw (c.line-in-Whole.ensures, c.count.ensures.value, read.1.1) at c.in_err-take-in-Whole.ensures in
    rw (p.1, p.2) (step_fault c.in_err-take-in-Whole.field-0.0 c.args.lines.now.count _ _ _ _ c.next.new.self.line read.1.0 (FirstLines-whole _ (g.R.Read.remaining c.next.new.reader) _ read.0.0 read.0.1) read.0.2 (sym open') takes)

pub returns-in_err-take-in-Rest-clause-taken : goal.returns-in_err-take-in-Rest-clause-taken
returns-in_err-take-in-Rest-clause-taken g c =
    let p = err_from_is_err_and c.from_residual-in_err-take-in-Rest.result c.from_residual-in_err-take-in-Rest.ensures.1 in
    let read = rw c.in-Rest.is at c.in_ok-next.ensures.taken in
    let open' = rw c.line-in-Rest.ensures at c.if-not-ends_opening.ensures in
    let takes = rw (c.line-then-not-ends_opening.ensures, c.count-then-not-ends_opening.ensures.value, read.1.1) at c.in_err-take-in-Rest.ensures in
    rw (p.1, p.2) (step_fault c.in_err-take-in-Rest.field-0.0 c.args.lines.now.count _ _ _ _ c.next.new.self.line read.1.0 (FirstLines-only _ _ (OnlyLine _ (g.R.Read.remaining c.next.new.reader) _ read.0.0 read.0.1 read.0.2 read.0.4)) read.0.3 (sym open') takes)

pub returns-in_ok-take-in-Rest-clause-taken : goal.returns-in_ok-take-in-Rest-clause-taken
returns-in_ok-take-in-Rest-clause-taken g c =
    let read = rw c.in-Rest.is at c.in_ok-next.ensures.taken in
    let open' = rw c.line-in-Rest.ensures at c.if-not-ends_opening.ensures in
    let takes = rw (c.line-then-not-ends_opening.ensures, c.count-then-not-ends_opening.ensures.value, read.1.1) at c.in_ok-take-in-Rest.ensures in
    step_rest c.args.lines.now.count _ (g.R.Read.remaining c.next.new.reader) _ c.take-then-not-ends_opening.new.self c.next.new.self.line read.0.0 read.0.1 (OnlyLine _ _ _ read.0.0 read.0.1 read.0.2 read.0.4)
    (rest_said c.args.lines.now.count _ _ _ read.1.0 read.0.3 (sym open') takes)

pub returns-in-TooLong-clause-taken : goal.returns-in-TooLong-clause-taken
returns-in-TooLong-clause-taken g c =
    step_past c.in_ok-next.field-0 _ (g.R.Read.remaining c.next.new.reader) _ c.args.lines.now c.next.new.self _ c.in-TooLong.is c.in_ok-next.ensures.taken c.count-in-TooLong.ensures.value
