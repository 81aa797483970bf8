use Rattle.gate_core.proofs.Barring.{questions_change_nothing}
use Rattle.gate_core.proofs.laws.questions_change_nothing.Goals as goal

pub returns : goal.returns
returns c = questions_change_nothing
