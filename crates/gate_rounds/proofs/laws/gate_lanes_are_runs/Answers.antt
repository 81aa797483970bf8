use Rattle.gate_rounds.proofs.AuditedLanes.{gate_lanes_are_runs}
use Rattle.gate_rounds.proofs.laws.gate_lanes_are_runs.Goals as goal

pub returns : goal.returns
returns c = gate_lanes_are_runs
