use Rattle.std.proofs.Common.{ap, ◌∙◌}
use Rattle.gate_graph.specs.Holding.{load_in}
use Rattle.gate_pool.specs.Pool.{Pooled, entry_by_txid}
use Rattle.gate_pool.proofs.Carrying.{load_is}
use Rattle.gate_pool.proofs.store.Store.entry_near.Goals as goal

pub returns : goal.returns
returns g c =
    let nodes = c.self.inside.nodes.nodes in
    let x = c.args.txid.now in
    c.load_near.ensures ∙ ap (load_in nodes) c.node_id.ensures ∙ load_is nodes c.self.invariant.0 x ∙ ap (λ (p : Pooled). entry_by_txid p.entries x) c.self.view_is
