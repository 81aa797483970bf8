use Rattle.std.proofs.Common.{ap, ◌∙◌}
use Rattle.gate_graph.specs.Holding.{Carried, loaded}
use Rattle.gate_graph.proofs.nodes.Nodes.as_slice.Goals as goal

pub returns-clause-nodes : goal.returns-clause-nodes
returns-clause-nodes g c = ap loaded c.as_slice.ensures.held ∙ ap (λ (l : Carried g.row.T.Denot). l.nodes) c.self.view_is

pub returns-clause-places : goal.returns-clause-places
returns-clause-places g c = c.as_slice.ensures.spots ∙ ap (λ (l : Carried g.row.T.Denot). l.places) c.self.view_is
