use Rattle.std.proofs.Common.{◌∙◌, sym, ap, not}
use Rattle.std.specs.List.{list_all}
use Rattle.gate_graph.specs.Families.{has}
use Rattle.gate_graph.specs.Holding.{id_at, nodes_of}
use Rattle.gate_graph.proofs.Holdings.{names_no_node}
use Rattle.gate_graph.proofs.take.is_root.Goals as goal

pub returns : goal.returns
returns g c t =
    let hs = c.args.slots.now.held in
    let x = id_at c.args.slots.now.spots c.args.place in
    let h = c.at.result.now in
    names_no_node hs x h c.requires.apart c.at.ensures (ap (list_all (λ p. not (has (nodes_of hs) p))) (sym c.as_slice.ensures.value) ∙ sym c.names_none.ensures ∙ t)
