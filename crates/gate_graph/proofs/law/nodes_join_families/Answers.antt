use Rattle.gate_graph.proofs.Joining.{JoinsFamilies-above}
use Rattle.gate_graph.proofs.law.nodes_join_families.Goals as goal

pub returns : goal.returns
returns c = JoinsFamilies-above
