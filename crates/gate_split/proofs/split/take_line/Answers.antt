use Rattle.std.proofs.Common.{◌≡◌, ◌++◌, ◌∷◌, []}
use Rattle.std.proofs.lemmas.Result.{err_from_is_err_and}
use Rattle.gate_split.specs.Splitting.{so_far}
use Rattle.gate_split.proofs.Splits.{rest_taken, whole_fault, whole_bad, rest_fault, rest_bad, limits_past}
use Rattle.gate_split.proofs.split.take_line.Goals as goal

pub returns-in_err-take-in-Whole-clause-many : goal.returns-in_err-take-in-Whole-clause-many
returns-in_err-take-in-Whole-clause-many g c =
    let p = err_from_is_err_and c.from_residual-in_err-take-in-Whole.result c.from_residual-in_err-take-in-Whole.ensures.1 in
    let read = rw c.in-Whole.is at c.in_ok-next.ensures.taken in
    let taken : c.line.result.now ≡ c.next.new.self.line ++ 10 ∷ [] = cc (c.line.ensures, c.in_ok-push_newline-in-Whole.ensures.line) in
    rw (p.1, p.2) (λ kind. whole_fault c.in_err-take-in-Whole.field-0.0 _ (g.R.Read.remaining c.next.new.reader) (so_far c.args.rounds.now) (so_far c.take.new.self) c.next.new.self.line _ read.0.0 read.0.1
    taken kind c.in_err-take-in-Whole.ensures)

pub returns-in_err-take-in-Whole-clause-past : goal.returns-in_err-take-in-Whole-clause-past
returns-in_err-take-in-Whole-clause-past g c =
    let p = err_from_is_err_and c.from_residual-in_err-take-in-Whole.result c.from_residual-in_err-take-in-Whole.ensures.1 in
    let read = rw c.in-Whole.is at c.in_ok-next.ensures.taken in
    let taken : c.line.result.now ≡ c.next.new.self.line ++ 10 ∷ [] = cc (c.line.ensures, c.in_ok-push_newline-in-Whole.ensures.line) in
    rw (p.1, p.2) (λ steady kind. whole_bad c.args.lines.now.count c.in_err-take-in-Whole.field-0.0 _ (g.R.Read.remaining c.next.new.reader) (so_far c.args.rounds.now) (so_far c.take.new.self) c.next.new.self.line _ read.0.0 read.0.1
    taken kind c.in_err-take-in-Whole.ensures)

pub returns-in_err-take-in-Rest-clause-many : goal.returns-in_err-take-in-Rest-clause-many
returns-in_err-take-in-Rest-clause-many g c =
    let p = err_from_is_err_and c.from_residual-in_err-take-in-Rest.result c.from_residual-in_err-take-in-Rest.ensures.1 in
    let read = rw c.in-Rest.is at c.in_ok-next.ensures.taken in
    rw (p.1, p.2) (λ kind. rest_fault c.in_err-take-in-Rest.field-0.0 _ (g.R.Read.remaining c.next.new.reader) (so_far c.args.rounds.now) (so_far c.take-in-Rest.new.self) c.next.new.self.line _ read.0.0 read.0.1 read.0.2 read.0.4
    c.line-in-Rest.ensures kind c.in_err-take-in-Rest.ensures)

pub returns-in_err-take-in-Rest-clause-past : goal.returns-in_err-take-in-Rest-clause-past
returns-in_err-take-in-Rest-clause-past g c =
    let p = err_from_is_err_and c.from_residual-in_err-take-in-Rest.result c.from_residual-in_err-take-in-Rest.ensures.1 in
    let read = rw c.in-Rest.is at c.in_ok-next.ensures.taken in
    rw (p.1, p.2) (λ steady kind. rest_bad c.args.lines.now.count c.in_err-take-in-Rest.field-0.0 _ (g.R.Read.remaining c.next.new.reader) (so_far c.args.rounds.now) (so_far c.take-in-Rest.new.self) c.next.new.self.line _ read.0.0 read.0.1 read.0.2 read.0.4
    c.line-in-Rest.ensures kind c.in_err-take-in-Rest.ensures)

pub returns-in_ok-take-in-Rest-clause-taken : goal.returns-in_ok-take-in-Rest-clause-taken
returns-in_ok-take-in-Rest-clause-taken g c =
    let read = rw c.in-Rest.is at c.in_ok-next.ensures.taken in
    let taken = rw c.line-in-Rest.ensures at c.in_ok-take-in-Rest.ensures in
    rest_taken c.args.lines.now.count c.next.new.self.count _ (g.R.Read.remaining c.next.new.reader) (so_far c.args.rounds.now) (so_far c.take-in-Rest.new.self) c.next.new.self.line read.1.0 read.0.0 read.0.1 read.0.2 read.0.3 read.0.4 taken

pub returns-in-TooLong-clause-past : goal.returns-in-TooLong-clause-past
returns-in-TooLong-clause-past g c = λ steady kind.
    limits_past c.in_ok-next.field-0 _ (g.R.Read.remaining c.next.new.reader) c.args.lines.now c.next.new.self (so_far c.args.rounds.now) c.in-TooLong.is c.in_ok-next.ensures.taken
