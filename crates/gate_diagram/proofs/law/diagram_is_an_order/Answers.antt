use Rattle.gate_diagram.proofs.Sloping.{diagram_order}
use Rattle.gate_diagram.proofs.law.diagram_is_an_order.Goals as goal

pub returns : goal.returns
returns c = diagram_order
