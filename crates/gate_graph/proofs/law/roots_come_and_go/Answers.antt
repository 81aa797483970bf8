use Rattle.gate_graph.proofs.Joining.{ComesAndGoes-root}
use Rattle.gate_graph.proofs.law.roots_come_and_go.Goals as goal

pub returns : goal.returns
returns c = λ g n children ok none fits. ComesAndGoes-root g n children ok fits none
