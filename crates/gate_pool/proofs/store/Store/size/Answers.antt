use Rattle.std.proofs.Common.{ap, ◌∙◌}
use Rattle.std.specs.Prelude.{sum_by}
use Rattle.gate_graph.specs.Family.{Node}
use Rattle.gate_pool.specs.Pool.{Pooled, size_of}
use Rattle.gate_pool.specs.Keeping.{entries_in}
use Rattle.gate_pool.proofs.Carrying.{nodes_are, sizes_of}
use Rattle.gate_pool.proofs.store.Store.size.Goals as goal

pub returns : goal.returns
returns g c =
    let nodes = c.self.inside.nodes.nodes in
    c.size.ensures ∙ ap (sum_by (λ (n : Node). n.size)) (nodes_are nodes c.self.invariant.0) ∙ sizes_of (entries_in nodes) ∙ ap (λ (p : Pooled). size_of p.entries) c.self.view_is
