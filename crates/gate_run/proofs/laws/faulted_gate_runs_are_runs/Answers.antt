use Rattle.gate_core.proofs.Running.{steps_give_the_run}
use Rattle.gate_opening.proofs.OpeningsGood.{openings_are_good}
use Rattle.gate_run.proofs.FaultedLanes.{faulted_lanes_are_runs}
use Rattle.gate_run.proofs.GateRunning.{faulted_gate_runs_are_runs}
use Rattle.gate_run.proofs.LedLanes.{lanes_are_runs}
use Rattle.gate_run.proofs.laws.faulted_gate_runs_are_runs.Goals as goal

pub returns : goal.returns
returns c = faulted_gate_runs_are_runs openings_are_good (faulted_lanes_are_runs (lanes_are_runs steps_give_the_run))
