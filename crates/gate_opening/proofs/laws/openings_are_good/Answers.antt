use Rattle.gate_opening.proofs.OpeningsGood.{openings_are_good}
use Rattle.gate_opening.proofs.laws.openings_are_good.Goals as goal

pub returns : goal.returns
returns c = openings_are_good
