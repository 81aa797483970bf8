use Rattle.gate_chain.proofs.Lawful.{learning_opens}
use Rattle.gate_chain.proofs.laws.learning_is_opening.Goals as goal

pub returns : goal.returns
returns c = learning_opens
