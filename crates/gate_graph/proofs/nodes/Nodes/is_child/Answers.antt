use Rattle.std.proofs.Common.{◌≡◌, ◌∙◌, sym, ap}
use Rattle.gate_graph.specs.Families.{among, children_of}
use Rattle.gate_graph.specs.Holding.{Carried, nodes_of, nodes_in}
use Rattle.gate_graph.proofs.Loading.{nodes_loaded}
use Rattle.gate_graph.proofs.Childhood.{listed_children}
use Rattle.gate_graph.proofs.nodes.Nodes.is_child.Goals as goal

pub returns : goal.returns
returns g c =
    let e : nodes_of c.self.inside.slots.held ≡ nodes_in c.args.self.now.nodes = sym (nodes_loaded c.self.inside.slots.held) ∙ ap (λ (l : Carried g.row.T.Denot). nodes_in l.nodes) c.self.view_is in
    c.has.ensures
    ∙ listed_children (nodes_of c.self.inside.slots.held) c.self.inside.links c.args.id.now c.self.invariant.0.linked c.args.child.now
    ∙ ap (λ ns. among (children_of ns c.args.id.now) c.args.child.now) e
