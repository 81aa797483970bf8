use Rattle.gate_standard.proofs.Rates.{rates_are_rounded_down}
use Rattle.gate_standard.proofs.law.rates_are_rounded_down.Goals as goal

pub returns : goal.returns
returns c = rates_are_rounded_down
