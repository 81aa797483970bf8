use Rattle.std.proofs.Common.{is_some, ap, ◌∙◌, arith}
use Rattle.gate_graph.specs.Families.{has}
use Rattle.gate_graph.specs.Holding.{nodes_in}
use Rattle.gate_graph.specs.Weighing.{totals_of as node_totals}
use Rattle.gate_pool.specs.Pool.{Pooled, entry_by_txid}
use Rattle.gate_pool.specs.Family.{totals_of}
use Rattle.gate_pool.specs.Keeping.{entries_in}
use Rattle.gate_pool.proofs.Carrying.{has_is, nodes_are}
use Rattle.gate_pool.proofs.Weighed.{totals_are, same_totals, small_totals}
use Rattle.gate_pool.proofs.store.Store.totals_near.Goals as goal

pub returns-clause-found : goal.returns-clause-found
returns-clause-found g c =
    let nodes = c.self.inside.nodes.nodes in
    c.totals_near.ensures.found ∙ ap (has (nodes_in nodes)) c.node_id.ensures ∙ has_is nodes c.self.invariant.0 c.args.txid.now ∙ ap (λ (p : Pooled). is_some (entry_by_txid p.entries c.args.txid.now)) c.self.view_is

pub returns-clause-totals : goal.returns-clause-totals
returns-clause-totals g c =
    let nodes = c.self.inside.nodes.nodes in
    same_totals c.totals_near.result (node_totals (nodes_in nodes) c.node_id.result) (totals_of c.args.self.now.entries c.args.txid.now)
    ((λ i. node_totals (nodes_are nodes c.self.invariant.0 i) (c.node_id.ensures i)) ∙ totals_are (entries_in nodes) c.args.txid.now ∙ ap (λ (p : Pooled). totals_of p.entries c.args.txid.now) c.self.view_is) c.totals_near.ensures.totals

pub returns-clause-small : goal.returns-clause-small
returns-clause-small g c =
    let nodes = c.self.inside.nodes.nodes in
    small_totals c.totals_near.result (entries_in nodes) c.args.txid.now
    (same_totals c.totals_near.result (node_totals (nodes_in nodes) c.node_id.result) (totals_of (entries_in nodes) c.args.txid.now)
    ((λ i. node_totals (nodes_are nodes c.self.invariant.0 i) (c.node_id.ensures i)) ∙ totals_are (entries_in nodes) c.args.txid.now) c.totals_near.ensures.totals)
    c.self.invariant.0.bounded (omega (arith, c.self.invariant.3, c.self.inside.gone.small))
