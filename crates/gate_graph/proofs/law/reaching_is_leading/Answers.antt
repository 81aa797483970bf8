use Rattle.gate_graph.proofs.Reaching.{reaches_from_Leads, Leads_from_reaches}
use Rattle.gate_graph.proofs.law.reaching_is_leading.Goals as goal

pub returns : goal.returns
returns c = λ steps a b. (Leads_from_reaches steps a b, reaches_from_Leads)
