use Rattle.std.proofs.Common.{ap}
use Rattle.std.proofs.lemmas.Result.{err_from_is_err_and}
use Rattle.gate_lines.specs.Counting.{LastLine}
use Rattle.gate_opening.proofs.Heard.{Heard-start, Heard-went, Heard-ended, Heard-fault}
use Rattle.gate_opening.proofs.opening.gather.Goals as goal

pub loop-lines-init : goal.loop-lines-init
loop-lines-init g c = Heard-start _ _ _ (ap (λ (l : LastLine). l.count) c.new-lines.ensures) c.requires

pub loop-lines-preserved : goal.loop-lines-preserved
loop-lines-preserved g c =
    Heard-went _ (g.R.Read.remaining c.loop-lines.reader) _ _ _ c.loop-lines.lines c.take_step.new.lines (c.in_ok-take_step.ensures.counted c.in-Went.is) c.loop-lines.invariant (rw c.in-Went.is at c.in_ok-take_step.ensures.taken)

pub returns-in-Ended-clause-gathered : goal.returns-in-Ended-clause-gathered
returns-in-Ended-clause-gathered g c =
    Heard-ended c.loop-lines.lines.count _ (g.R.Read.remaining c.loop-lines.reader) _ c.loop-lines.draft _ c.loop-lines.invariant (rw c.in-Ended.is at c.in_ok-take_step.ensures.taken)

pub returns-in_err-take_step-clause-gathered : goal.returns-in_err-take_step-clause-gathered
returns-in_err-take_step-clause-gathered g c =
    let p = err_from_is_err_and c.from_residual.result c.from_residual.ensures.1 in
    rw (p.1, p.2) (Heard-fault c.in_err-take_step.field-0.0 c.loop-lines.lines.count _ (g.R.Read.remaining c.loop-lines.reader) _ c.loop-lines.draft c.take_step.new.draft c.loop-lines.invariant c.in_err-take_step.ensures.taken)
