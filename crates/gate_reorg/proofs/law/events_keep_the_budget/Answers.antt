use Rattle.gate_reorg.proofs.Spending.{events_keep_the_budget}
use Rattle.gate_reorg.proofs.law.events_keep_the_budget.Goals as goal

pub returns : goal.returns
returns c = events_keep_the_budget
