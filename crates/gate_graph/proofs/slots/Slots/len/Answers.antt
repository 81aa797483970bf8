use Rattle.std.proofs.Common.{ap, sym, ◌∙◌, length}
use Rattle.gate_graph.specs.Families.{ids_of}
use Rattle.gate_graph.specs.Slots.{entries_of}
use Rattle.gate_graph.specs.Holding.{Stored, nodes_of}
use Rattle.gate_graph.proofs.Placing.{length-spots, spots_entries}
use Rattle.gate_graph.proofs.slots.Slots.len.Goals as goal

pub returns-clause-len : goal.returns-clause-len
returns-clause-len g c =
    ap length c.as_slice.ensures.value ∙ sym (length-spots c.self.inside.slots.items) ∙ ap (λ (s : Stored g.row.T.Denot). length s.spots) c.self.view_is

pub returns-clause-ids : goal.returns-clause-ids
returns-clause-ids g c =
    ap (λ (s : Stored g.row.T.Denot). ids_of (nodes_of s.held)) (sym c.self.view_is) ∙ spots_entries c.self.inside.slots.items ∙ ap (λ (s : Stored g.row.T.Denot). entries_of s.spots) c.self.view_is
