use Rattle.gate_graph.proofs.Joining.{HaveEachOnce-graph}
use Rattle.gate_graph.proofs.law.families_have_each_once.Goals as goal

pub returns : goal.returns
returns c = HaveEachOnce-graph
