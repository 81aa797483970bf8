use Rattle.std.proofs.Common.{ap, ◌∙◌}
use Rattle.std.specs.Prelude.{sum_by}
use Rattle.gate_graph.specs.Holding.{Stored, nodes_of}
use Rattle.gate_graph.proofs.slots.Slots.size.Goals as goal

pub returns : goal.returns
returns g c = c.self.invariant.2.sum ∙ ap (λ (s : Stored g.row.T.Denot). sum_by (λ n. n.size) (nodes_of s.held)) c.self.view_is
