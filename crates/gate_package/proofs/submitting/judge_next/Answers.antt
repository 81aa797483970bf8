use Rattle.std.proofs.Common.{sym, ◌∙◌}
use Rattle.gate_admit.specs.Lending.{lent_with}
use Rattle.gate_package.proofs.Rewinding.{told_replaced}
use Rattle.gate_package.proofs.submitting.judge_next.Goals as goal

pub enter-requires-clause-replaced : goal.enter-requires-clause-replaced
enter-requires-clause-replaced g c =
    c.replaced_by.ensures
    ∙ told_replaced c.args.max_rate (lent_with c.args.under.now c.args.pool.now.entries) c.args.under.now.second c.args.candidate.now c.in_ok-fate.field-0.fate c.in_ok-fate.field-0.sibling c.in-Some.entry c.in_ok-fate.ensures.fate
    (rw c.in-Some.is at c.in_ok-fate.ensures.sibling) (sym c.in_ok-fate.ensures.entry ∙ c.in-Some.is)
