use Rattle.std.proofs.Common.{◌&&◌, ap, ◌∙◌}
use Rattle.std.specs.List.{list_any}
use Rattle.gate_graph.specs.Families.{among, children_of as nodes_naming}
use Rattle.gate_graph.specs.Holding.{nodes_in}
use Rattle.gate_pool.specs.Pool.{Admitted, Pooled, has_txid}
use Rattle.gate_pool.specs.Family.{names}
use Rattle.gate_pool.proofs.Children.{child_told}
use Rattle.gate_pool.proofs.store.Store.is_child.Goals as goal

pub returns : goal.returns
returns g c =
    let nodes = c.self.inside.nodes.nodes in
    c.is_child.ensures
    ∙ (λ k. among (nodes_naming (nodes_in nodes) (c.node_id.ensures k)) (c.node_id-2.ensures k))
    ∙ child_told nodes c.self.invariant.0 c.args.txid.now c.args.child.now
    ∙ ap (λ (p : Pooled). list_any (λ (e : Admitted). names e c.args.txid.now && has_txid e c.args.child.now) p.entries) c.self.view_is
