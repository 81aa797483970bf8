use Rattle.std.proofs.Common.{◌≡◌, ◌<◌, ap, sym, ◌∙◌, ◌∷◌, ◌++◌, [], subst, arith, true≢false, refl, false, true, length, get_or}
use Rattle.std.specs.Prelude.{Contains, slice_set}
use Rattle.std.proofs.lemmas.List.{length-map, length-append, get_or_default}
use Rattle.gate_graph.specs.Families.{has}
use Rattle.gate_graph.proofs.Filters.{Contains-map}
use Rattle.gate_graph.specs.Holding.{id_at, ids_at, node_of, nodes_of}
use Rattle.gate_graph.specs.Walking.{AreFound, IsNode, IsSearch}
use Rattle.gate_graph.proofs.Finding.{AreFound-pushed, AreFound-none}
use Rattle.gate_graph.proofs.Marking.{new_place, IsSearch-push, search_fits, ids_at-push, id_from, filled, within}
use Rattle.gate_graph.proofs.walk.add.Goals as goal

pub push_reserved-requires : goal.push_reserved-requires
push_reserved-requires g c =
    let ns = nodes_of c.args.slots.now.held in
    let spots = c.args.slots.now.spots in
    let marks = c.args.marks.now.items in
    let found = c.args.found.now.items in
    let p = c.in-Some.place in
    let x = c.args.id.now in
    let s = c.requires.search in
    let inside = within spots p (filled spots p x c.in-Some.ensures.sound) in
    let lt : p < length marks = omega (arith, inside, s.len) in
    let unmarked : get_or marks p false ≡ false = get_or_default marks p false c.index.result.now lt ∙ sym c.index.ensures ∙ c.if-not-index.true in
    let new = new_place ns spots marks found p x s c.in-Some.ensures.whole unmarked in
    let after = IsSearch-push ns spots marks found p x s c.in-Some.ensures.sound (sym c.in-Some.ensures.has) new in
    omega (arith, search_fits ns spots (slice_set marks p true) (found ++ p ∷ []) after, length-append found (p ∷ []), c.args.found.now.ok, length-map c.args.slots.now.held node_of, c.requires.room)

pub returns-then-not-index-clause-search : goal.returns-then-not-index-clause-search
returns-then-not-index-clause-search g c =
    let ns = nodes_of c.args.slots.now.held in
    let spots = c.args.slots.now.spots in
    let marks = c.args.marks.now.items in
    let found = c.args.found.now.items in
    let p = c.in-Some.place in
    let x = c.args.id.now in
    let s = c.requires.search in
    let inside = within spots p (filled spots p x c.in-Some.ensures.sound) in
    let lt : p < length marks = omega (arith, inside, s.len) in
    let unmarked : get_or marks p false ≡ false = get_or_default marks p false c.index.result.now lt ∙ sym c.index.ensures ∙ c.if-not-index.true in
    let new = new_place ns spots marks found p x s c.in-Some.ensures.whole unmarked in
    subst (IsSearch ns spots (slice_set marks p true)) (sym c.push_reserved.ensures.items) (IsSearch-push ns spots marks found p x s c.in-Some.ensures.sound (sym c.in-Some.ensures.has) new)

pub returns-then-not-index-clause-found : goal.returns-then-not-index-clause-found
returns-then-not-index-clause-found g c =
    let ns = nodes_of c.args.slots.now.held in
    let spots = c.args.slots.now.spots in
    let found = c.args.found.now.items in
    let p = c.in-Some.place in
    let x = c.args.id.now in
    let last = ap (ids_at spots) c.push_reserved.ensures.items ∙ ids_at-push spots found p ∙ ap (λ y. ids_at spots found ++ y ∷ []) (id_from spots p x c.in-Some.ensures.sound) in
    subst (AreFound (IsNode ns x) (ids_at spots found)) (sym last) (AreFound-pushed (ids_at spots found) x (refl, sym c.in-Some.ensures.has) (λ b q. q.0))

pub returns-else-not-index-clause-found : goal.returns-else-not-index-clause-found
returns-else-not-index-clause-found g c =
    let ns = nodes_of c.args.slots.now.held in
    let spots = c.args.slots.now.spots in
    let marks = c.args.marks.now.items in
    let found = c.args.found.now.items in
    let p = c.in-Some.place in
    let x = c.args.id.now in
    let s = c.requires.search in
    let inside = within spots p (filled spots p x c.in-Some.ensures.sound) in
    let lt : p < length marks = omega (arith, inside, s.len) in
    let marked : get_or marks p false ≡ true = get_or_default marks p false c.index.result.now lt ∙ sym c.index.ensures ∙ c.if-not-index.false in
    AreFound-none {P = IsNode ns x} (ids_at spots found) (λ b q. subst (Contains (ids_at spots found)) (id_from spots p x c.in-Some.ensures.sound ∙ q.0) (Contains-map (id_at spots) found p (s.only p marked)))

pub returns-in-None-clause-found : goal.returns-in-None-clause-found
returns-in-None-clause-found g c =
    let ns = nodes_of c.args.slots.now.held in
    let x = c.args.id.now in
    AreFound-none {P = IsNode ns x} (ids_at c.args.slots.now.spots c.args.found.now.items) (λ b q. absurd (true≢false (sym (ap (has ns) q.0 ∙ q.1) ∙ sym c.in-None.ensures.has)))
