use Rattle.gate_core.proofs.Running.{steps_give_the_run}
use Rattle.gate_core.proofs.laws.steps_give_the_run.Goals as goal

pub returns : goal.returns
returns c = steps_give_the_run
