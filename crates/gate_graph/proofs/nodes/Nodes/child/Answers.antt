use Rattle.std.proofs.Common.{◌≡◌, ◌<◌, ◌-◌, ◌∙◌, sym, ap, subst, length, arith}
use Rattle.std.specs.Prelude.{Contains}
use Rattle.gate_graph.specs.Families.{children_of}
use Rattle.gate_graph.specs.Holding.{Carried, nodes_of, nodes_in}
use Rattle.gate_graph.specs.Linking.{listing}
use Rattle.gate_graph.proofs.Loading.{nodes_loaded}
use Rattle.gate_graph.proofs.Childhood.{listed_child, unlisted}
use Rattle.gate_graph.proofs.nodes.Nodes.child.Goals as goal

pub returns-then-count-eq0-clause-none : goal.returns-then-count-eq0-clause-none
returns-then-count-eq0-clause-none g c =
    let x = c.args.id.now in
    let e : nodes_of c.self.inside.slots.held ≡ nodes_in c.args.self.now.nodes = sym (nodes_loaded c.self.inside.slots.held) ∙ ap (λ (l : Carried g.row.T.Denot). nodes_in l.nodes) c.self.view_is in
    ap (λ l. children_of l x) (sym e) ∙ unlisted (nodes_of c.self.inside.slots.held) c.self.inside.links x c.self.invariant.0.linked (sym c.count-count.ensures ∙ c.if-count-eq0.true)

pub returns-else-count-eq0-clause-some : goal.returns-else-count-eq0-clause-some
returns-else-count-eq0-clause-some g c =
    let x = c.args.id.now in
    let e : nodes_of c.self.inside.slots.held ≡ nodes_in c.args.self.now.nodes = sym (nodes_loaded c.self.inside.slots.held) ∙ ap (λ (l : Carried g.row.T.Denot). nodes_in l.nodes) c.self.view_is in
    let lt : c.count-count.result - 1 < length (listing c.self.inside.links x) = omega (arith, c.count-count.ensures, c.if-count-eq0.false) in
    subst (λ l. Contains (children_of l x) c.at.result.now) e (listed_child (nodes_of c.self.inside.slots.held) c.self.inside.links x c.at.result.now (c.count-count.result - 1) c.self.invariant.0.linked lt c.at.ensures)
