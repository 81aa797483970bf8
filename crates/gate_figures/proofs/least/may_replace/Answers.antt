use Rattle.std.proofs.Common.{◌∙◌}
use Rattle.gate_figures.proofs.Passing.{judged}
use Rattle.gate_figures.proofs.least.may_replace.Goals as goal

pub returns : goal.returns
returns g c = c.is_ok.ensures.value ∙ judged _ _ c.in_ok-found.ensures.ok c.in_ok-found.ensures.err
