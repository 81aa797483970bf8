use Rattle.std.proofs.Common.{sym, ap, ◌∙◌}
use Rattle.std.specs.Prelude.{sum_by}
use Rattle.gate_graph.specs.Holding.{Carried, nodes_in}
use Rattle.gate_graph.proofs.Loading.{nodes_loaded}
use Rattle.gate_graph.proofs.nodes.Nodes.size.Goals as goal

pub returns : goal.returns
returns g c =
    c.size.ensures ∙ ap (sum_by (λ n. n.size)) (sym (nodes_loaded c.self.inside.slots.held)) ∙ ap (λ (l : Carried g.row.T.Denot). sum_by (λ n. n.size) (nodes_in l.nodes)) c.self.view_is
