use Rattle.std.proofs.Common.{◌∙◌, sym, ap}
use Rattle.gate_graph.specs.Families.{has}
use Rattle.gate_graph.specs.Holding.{Carried, nodes_in}
use Rattle.gate_graph.proofs.Loading.{nodes_loaded}
use Rattle.gate_graph.proofs.nodes.Nodes.contains.Goals as goal

pub returns : goal.returns
returns g c = c.contains.ensures ∙ ap (λ l. has l c.args.id.now) (sym (nodes_loaded c.self.inside.slots.held)) ∙ ap (λ (l : Carried g.row.T.Denot). has (nodes_in l.nodes) c.args.id.now) c.self.view_is
