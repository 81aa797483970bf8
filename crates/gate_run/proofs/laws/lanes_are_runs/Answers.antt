use Rattle.gate_core.proofs.Running.{steps_give_the_run}
use Rattle.gate_run.proofs.LedLanes.{lanes_are_runs}
use Rattle.gate_run.proofs.laws.lanes_are_runs.Goals as goal

pub returns : goal.returns
returns c = lanes_are_runs steps_give_the_run
