use Rattle.gate_standard.proofs.Values.{values_are_in_range}
use Rattle.gate_standard.proofs.law.values_are_in_range.Goals as goal

pub returns : goal.returns
returns c = values_are_in_range
