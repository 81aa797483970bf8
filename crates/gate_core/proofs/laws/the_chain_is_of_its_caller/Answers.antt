use Rattle.gate_core.proofs.ByChain.{learning_leaves_the_rest, others_leave_the_chain}
use Rattle.gate_core.proofs.laws.the_chain_is_of_its_caller.Goals as goal

pub returns-clause-others : goal.returns-clause-others
returns-clause-others c = others_leave_the_chain

pub returns-clause-rest : goal.returns-clause-rest
returns-clause-rest c = learning_leaves_the_rest
