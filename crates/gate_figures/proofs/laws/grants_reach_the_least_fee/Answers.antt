use Rattle.gate_figures.proofs.Granting.{grants_reach_the_least_fee}
use Rattle.gate_figures.proofs.laws.grants_reach_the_least_fee.Goals as goal

pub returns : goal.returns
returns c = grants_reach_the_least_fee
