use Rattle.std.proofs.lemmas.Result.{err_from_is_err_and}
use Rattle.gate_split.specs.declared.fault.SplitFault.TheVariants as split
use Rattle.gate_split.specs.declared.split.Rounds.{Rounds}
use Rattle.gate_split.proofs.Splits.{split_next, split_done, split_past, fault_is}
use Rattle.gate_split.proofs.split.take_lines.Goals as goal

pub returns-in_err-take_line-clause-past : goal.returns-in_err-take_line-clause-past
returns-in_err-take_line-clause-past g c =
    let p = err_from_is_err_and c.from_residual.result c.from_residual.ensures.1 in
    rw (p.1, p.2) (λ steady kind. split_past c.loop-lines.lines.count _ (g.R.Read.remaining c.loop-lines.reader) _ c.loop-lines.invariant (c.in_err-take_line.ensures.past steady (cc (fault_is Rounds c.in_err-take_line.field-0.0 split.Read kind))))

pub returns-clause-read : goal.returns-clause-read
returns-clause-read g c =
    let taken = rw c.if-branch.false at c.in_ok-take_line.ensures.taken in
    split_done c.loop-lines.lines.count c.take_line.new.lines.count _ (g.R.Read.remaining c.loop-lines.reader) (g.R.Read.remaining c.take_line.new.reader) _ _ c.loop-lines.invariant taken

pub loop-lines-preserved : goal.loop-lines-preserved
loop-lines-preserved g c =
    let taken = rw c.if-branch.true at c.in_ok-take_line.ensures.taken in
    split_next c.loop-lines.lines.count _ _ (g.R.Read.remaining c.loop-lines.reader) _ _ _ c.loop-lines.invariant taken
