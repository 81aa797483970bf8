use Rattle.gate_core.proofs.Running.{steps_give_the_run}
use Rattle.gate_opening.proofs.OpeningsGood.{openings_are_good}
use Rattle.gate_run.proofs.LedLanes.{lanes_are_runs}
use Rattle.gate_run.proofs.GateRunning.{gate_runs_are_runs}
use Rattle.gate_run.proofs.laws.gate_runs_are_runs.Goals as goal

pub returns : goal.returns
returns c = gate_runs_are_runs openings_are_good (lanes_are_runs steps_give_the_run)
