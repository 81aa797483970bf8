use Rattle.gate_core.proofs.Floors.{run_budget}
use Rattle.gate_core.proofs.laws.runs_keep_the_budget.Goals as goal

pub returns : goal.returns
returns c = run_budget
