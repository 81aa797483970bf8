use Rattle.std.proofs.Common.{◌≡◌, ◌∙◌, sym, ap, subst, List, ℕ, IfOk}
use Rattle.gate_graph.specs.Families.{among, children_of}
use Rattle.gate_graph.specs.Holding.{Carried, nodes_of, nodes_in}
use Rattle.gate_graph.proofs.Loading.{nodes_loaded}
use Rattle.gate_graph.proofs.nodes.Nodes.children.Goals as goal

pub returns : goal.returns
returns g c =
    let e : nodes_of c.self.inside.slots.held ≡ nodes_in c.args.self.now.nodes = sym (nodes_loaded c.self.inside.slots.held) ∙ ap (λ (l : Carried g.row.T.Denot). nodes_in l.nodes) c.self.view_is in
    subst (λ ns. IfOk c.children.result (λ found. (other : List ℕ) → among found.keys other ≡ among (children_of ns c.args.id.now) other)) e c.children.ensures
