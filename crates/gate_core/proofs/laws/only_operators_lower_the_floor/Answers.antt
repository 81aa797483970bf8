use Rattle.gate_core.proofs.Floors.{run_floor}
use Rattle.gate_core.proofs.laws.only_operators_lower_the_floor.Goals as goal

pub returns : goal.returns
returns c = λ w events others. run_floor events w others
