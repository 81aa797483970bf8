use Rattle.std.proofs.Common.{sym, ap, subst, arith, length, ◌≡◌, ◌∙◌}
use Rattle.std.specs.Option.{option_map}
use Rattle.gate_graph.specs.Holding.{id_at, nodes_of}
use Rattle.gate_graph.specs.Linking.{IsLinked, AreWithout}
use Rattle.gate_graph.proofs.Going.{leaving}
use Rattle.gate_graph.proofs.Holdings.{find_is}
use Rattle.gate_graph.proofs.Placing.{spot_some}
use Rattle.gate_graph.proofs.Pulling.{IsLinked-pulled, pulled_fewer}
use Rattle.gate_graph.proofs.Vacating.{once_spots, set_vacates}
use Rattle.gate_graph.proofs.take.pull_one.Goals as goal

pub returns-clause-linked : goal.returns-clause-linked
returns-clause-linked g c =
    let hs = c.args.slots.now.held in
    let x = id_at c.args.slots.now.spots c.args.place in
    let h = c.pull-held.result in
    let is : h.id ≡ x = (find_is hs x h c.pull-held.ensures.taken).1 in
    subst (λ l. IsLinked (nodes_of l) c.unlink.new.links) (sym c.pull-held.ensures.left)
    (IsLinked-pulled hs x h c.args.links.now c.unlink.new.links c.requires.apart c.pull-held.ensures.taken c.requires.linked
    (subst (λ y. AreWithout h.parents.items y c.args.links.now c.unlink.new.links) is (subst (λ l. AreWithout l h.id c.args.links.now c.unlink.new.links) c.as_slice.ensures.value c.unlink.ensures.lists)))

pub returns-clause-fewer : goal.returns-clause-fewer
returns-clause-fewer g c =
    omega (arith, pulled_fewer c.args.slots.now.held (id_at c.args.slots.now.spots c.args.place) c.pull-held.result c.pull-held.ensures.taken, ap length c.pull-held.ensures.left)

pub returns-clause-gone : goal.returns-clause-gone
returns-clause-gone g c = ap (option_map (leaving c.args.place)) c.pull-held.ensures.taken

pub returns-clause-vacated : goal.returns-clause-vacated
returns-clause-vacated g c =
    let spots = c.args.slots.now.spots in
    c.pull-held.ensures.spots
    ∙ set_vacates spots c.args.place (id_at spots c.args.place) (once_spots (nodes_of c.args.slots.now.held) spots c.requires.apart c.len-len.ensures.ids) (spot_some spots c.args.place c.requires.stands)
