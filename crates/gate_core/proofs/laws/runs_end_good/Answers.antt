use Rattle.gate_core.proofs.Running.{run_good}
use Rattle.gate_core.proofs.laws.runs_end_good.Goals as goal

pub returns : goal.returns
returns c = λ w events good spelled apart. run_good events w spelled apart good
