use Rattle.std.proofs.Common.{◌∙◌, sym, ap}
use Rattle.gate_graph.specs.Families.{has}
use Rattle.gate_graph.specs.Holding.{Carried, nodes_in}
use Rattle.gate_graph.proofs.Loading.{nodes_loaded}
use Rattle.gate_graph.proofs.nodes.Nodes.put.Goals as goal

pub put_node-requires-clause-new : goal.put_node-requires-clause-new
put_node-requires-clause-new g c =
    ap (λ l. has l c.args.id) (sym (nodes_loaded c.self.inside.slots.held)) ∙ ap (λ (l : Carried g.row.T.Denot). has (nodes_in l.nodes) c.args.id) c.self.view_is ∙ c.requires.new
