use Rattle.gate_core.proofs.ByChain.{forgetting_changes_no_answer}
use Rattle.gate_core.proofs.laws.forgetting_changes_no_answer.Goals as goal

pub returns : goal.returns
returns c = forgetting_changes_no_answer
