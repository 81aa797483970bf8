use Rattle.gate_trim.proofs.Trimmings.{trim_within}
use Rattle.gate_trim.proofs.law.trimming_keeps_the_budget.Goals as goal

pub returns : goal.returns
returns c = trim_within
