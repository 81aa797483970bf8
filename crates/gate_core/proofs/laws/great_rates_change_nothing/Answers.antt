use Rattle.gate_core.proofs.Rates.{great_rates_change_nothing}
use Rattle.gate_core.proofs.laws.great_rates_change_nothing.Goals as goal

pub returns : goal.returns
returns c = λ w peer rate great. great_rates_change_nothing w peer rate great
