use Rattle.std.proofs.Common.{◌≡◌, length, is_some, sym, ap, ◌∙◌, arith, true≢false}
use Rattle.std.specs.Prelude.{filter}
use Rattle.gate_graph.specs.Families.{among, has, descendants_of}
use Rattle.gate_graph.specs.declared.held.Held.{Held}
use Rattle.gate_graph.specs.declared.held.Sums.{Sums}
use Rattle.gate_graph.specs.Holding.{id_at, ids_at, node_of, nodes_of}
use Rattle.gate_graph.specs.Weighing.{sums_of}
use Rattle.gate_graph.proofs.Apart.{has-node}
use Rattle.gate_graph.proofs.Changing.{one_held}
use Rattle.gate_graph.proofs.Holdings.{find_is, node_in}
use Rattle.gate_graph.proofs.Marking.{id_from}
use Rattle.gate_graph.proofs.Merging.{counted_below, le_of}
use Rattle.gate_graph.proofs.merge.gains_one.Goals as goal

pub returns-in-Some-clause-gains : goal.returns-in-Some-clause-gains
returns-in-Some-clause-gains g c few h m same =
    let hs = c.args.slots.now.held in
    let spots = c.args.slots.now.spots in
    let here : id_at spots c.in-Some.place ≡ c.args.id.now = id_from spots c.in-Some.place c.args.id.now (rw c.in-Some.is at c.place.ensures.sound) in
    let w = find_is hs (id_at spots c.in-Some.place) c.at.result.now c.at.ensures in
    let one : c.at.result.now ≡ h = one_held hs c.at.result.now h c.requires.apart w.0 m (w.1 ∙ here ∙ sym same) in
    let count : c.weigh.result.count ≡ length (descendants_of (nodes_of hs) c.args.id.now) =
    ap (λ (s : Sums). s.count) (c.weigh.ensures ∙ ap (λ l. sums_of (filter (λ n. among (ids_at spots l) n.id) (nodes_of hs))) c.as_slice.ensures.value)
    ∙ ap length (counted_below (nodes_of hs) (id_at spots c.in-Some.place) (ids_at spots c.walk.new.found.items) c.walk.ensures.led)
    ∙ ap (λ y. length (descendants_of (nodes_of hs) y)) here in
    omega (arith, le_of c.weigh.result.count c.saturating_add.result few, count, c.saturating_add.ensures, ap (λ (z : Held g.row.T.Denot). z.totals.below.count) one)

pub returns-in-None-clause-gains : goal.returns-in-None-clause-gains
returns-in-None-clause-gains g c few h m same =
    absurd (true≢false (sym (has-node (nodes_of c.args.slots.now.held) (node_of h) (node_in c.args.slots.now.held h m)) ∙ ap (has (nodes_of c.args.slots.now.held)) same ∙ sym c.place.ensures.has ∙ ap is_some c.in-None.is))
