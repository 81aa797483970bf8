use Rattle.std.proofs.Common.{refl, sym, ◌∙◌}
use Rattle.std.proofs.lemmas.Bool.{true≢false}
use Rattle.gate_audit.proofs.LinesTaken.{Leads-whole, Leads-rest, past_counted, past_either}
use Rattle.gate_audit.proofs.lines.JournalLines.read_line.Goals as goal

pub returns-in_err-check_length-in-Whole-clause-past : goal.returns-in_err-check_length-in-Whole-clause-past
returns-in_err-check_length-in-Whole-clause-past g c = λ steady err.
    let read = rw c.in-Whole.is at c.in_ok-next_within.ensures.taken in
    past_counted _ (g.R.Read.remaining c.next_within.new.reader) _ c.next_within.new.self.line (Leads-whole _ _ _ read.0.0 read.0.1) (rw c.line.ensures at c.in_err-check_length-in-Whole.ensures.long)

pub returns-in_err-check_length-in-Rest-clause-past : goal.returns-in_err-check_length-in-Rest-clause-past
returns-in_err-check_length-in-Rest-clause-past g c = λ steady err.
    let read = rw c.in-Rest.is at c.in_ok-next_within.ensures.taken in
    past_counted _ (g.R.Read.remaining c.next_within.new.reader) _ c.next_within.new.self.line (Leads-rest _ _ _ read.0.0 read.0.1 read.0.2 read.0.4) (rw c.line-in-Rest.ensures at c.in_err-check_length-in-Rest.ensures.long)

pub returns-in_ok-check_length-in-Whole-clause-read : goal.returns-in_ok-check_length-in-Whole-clause-read
returns-in_ok-check_length-in-Whole-clause-read g c =
    let read = rw c.in-Whole.is at c.in_ok-next_within.ensures.taken in
    (Leads-whole _ _ _ read.0.0 read.0.1, rw c.line.ensures at c.in_ok-check_length-in-Whole.ensures.short, read.1.1, λ e. absurd (true≢false (sym e ∙ c.if-self.false)))

pub returns-in_ok-check_length-in-Rest-clause-read : goal.returns-in_ok-check_length-in-Rest-clause-read
returns-in_ok-check_length-in-Rest-clause-read g c =
    let read = rw c.in-Rest.is at c.in_ok-next_within.ensures.taken in
    (Leads-rest _ _ _ read.0.0 read.0.1 read.0.2 read.0.4, rw c.line-in-Rest.ensures at c.in_ok-check_length-in-Rest.ensures.short, read.1.1, λ e. read.0.1)

pub returns-in-TooLong-clause-past : goal.returns-in-TooLong-clause-past
returns-in-TooLong-clause-past g c = λ steady err.
    past_either c.in_ok-next_within.field-0 _ (g.R.Read.remaining c.next_within.new.reader) 16777218 c.args.self.now.lines c.next_within.new.self refl c.in-TooLong.is c.in_ok-next_within.ensures.taken
