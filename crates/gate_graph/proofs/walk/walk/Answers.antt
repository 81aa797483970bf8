use Rattle.std.proofs.Common.{◌≡◌, sym, ◌∙◌, ap, subst, [], ◌∷◌, ◌++◌, is_some, true, arith, refl, length}
use Rattle.std.specs.Prelude.{slice_set}
use Rattle.gate_graph.specs.Families.{has}
use Rattle.gate_graph.specs.Holding.{id_at, ids_at, nodes_of}
use Rattle.gate_graph.specs.Walking.{Begins, IsSearch}
use Rattle.gate_graph.proofs.Finding.{begins_here}
use Rattle.gate_graph.proofs.Holdings.{find_is, found_has}
use Rattle.gate_graph.proofs.Marking.{IsSearch-none, IsSearch-push, spot_some, within}
use Rattle.gate_graph.proofs.walk.walk.Goals as goal

pub index_mut-requires : goal.index_mut-requires
index_mut-requires g c = omega (arith, within c.args.slots.now.spots c.args.heading.place c.requires.stands, c.requires.clear.len)

pub follow-requires-clause-search : goal.follow-requires-clause-search
follow-requires-clause-search g c =
    let hs = c.args.slots.now.held in
    let ns = nodes_of hs in
    let spots = c.args.slots.now.spots in
    let marks = c.args.marks.now.items in
    let p = c.args.heading.place in
    let x = id_at spots p in
    let node : has ns x ≡ true = sym (found_has hs x) ∙ ap is_some c.at-held.ensures in
    subst (IsSearch ns spots (slice_set marks p true)) (sym (c.push_reserved.ensures.items ∙ ap (λ l. l ++ p ∷ []) c.clear.ensures.items))
    (IsSearch-push ns spots marks [] p x (IsSearch-none ns spots marks c.requires.clear) (spot_some spots p c.requires.stands) node refl)

pub returns-clause-led : goal.returns-clause-led
returns-clause-led g c b h =
    let ns = nodes_of c.args.slots.now.held in
    let spots = c.args.slots.now.spots in
    let p = c.args.heading.place in
    c.follow.ensures.led (id_at spots p)
    (subst (λ l. Begins c.args.heading.way ns (id_at spots p) (ids_at spots l)) (sym (c.push_reserved.ensures.items ∙ ap (λ l. l ++ p ∷ []) c.clear.ensures.items)) (begins_here c.args.heading.way ns (id_at spots p))) b h

pub push_reserved-requires : goal.push_reserved-requires
push_reserved-requires g c =
    let hs = c.args.slots.now.held in
    let h = c.at-held.result.now in
    let w = find_is hs (id_at c.args.slots.now.spots c.args.heading.place) h c.at-held.ensures in
    omega (arith, c.requires.room, w.0.1, c.clear.ensures.capacity, ap length c.clear.ensures.items)
