use Rattle.gate_opening.proofs.OpeningsGood.{openings_have_defaults}
use Rattle.gate_opening.proofs.laws.openings_have_defaults.Goals as goal

pub returns : goal.returns
returns c = openings_have_defaults
