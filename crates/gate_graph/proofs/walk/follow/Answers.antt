use Rattle.std.proofs.Common.{rules, refl, ◌≡◌, sym, ◌∙◌, ap, subst, [], get_or, ◌<◌, ◌≤◌, length, is_some, arith}
use Rattle.std.specs.Prelude.{Contains}
use Rattle.std.proofs.lemmas.List.Elements.{Contains-get_or}
use Rattle.gate_graph.specs.Slots.{at}
use Rattle.gate_graph.specs.Holding.{id_at, ids_at, nodes_of}
use Rattle.gate_graph.specs.Walking.{AreFound, Next}
use Rattle.gate_graph.proofs.Finding.{Walk-start, Walk-more, Walk-end}
use Rattle.gate_graph.proofs.Marking.{id_of, ids_lt, ids_le, within}
use Rattle.gate_graph.proofs.walk.follow.Goals as goal

pub loop-number-init : goal.loop-number-init
loop-number-init g c = record {
  search = c.requires.search;
  walk = λ x b. Walk-start c.args.way (nodes_of c.args.slots.now.held) x (ids_at c.args.slots.now.spots c.args.found.now.items) b;
  capacity = refl;
  marks = refl;
}

pub open-requires-clause-stands : goal.open-requires-clause-stands
open-requires-clause-stands g c =
    let found = c.loop-number.found.items in
    let i = c.loop-number.number in
    let lt : i < length found = search rules in
    ap (λ p. is_some (at c.args.slots.now.spots p)) c.index-place.ensures
    ∙ c.loop-number.invariant.search.standing.stand (get_or found i c.index-place.result.now) (Contains-get_or found i c.index-place.result.now lt)

pub loop-number-preserved : goal.loop-number-preserved
loop-number-preserved g c =
    let way = c.args.way in
    let es = nodes_of c.args.slots.now.held in
    let spots = c.args.slots.now.spots in
    let found = c.loop-number.found.items in
    let i = c.loop-number.number in
    let lt : i < length found = search rules in
    let here : id_at spots c.index-place.result.now ≡ get_or (ids_at spots found) i [] = ap (id_at spots) c.index-place.ensures ∙ sym (id_of spots found i c.index-place.result.now [] lt) in
    record {
      search = c.open.ensures.search;
      walk = λ x b.
          Walk-more way es x (ids_at spots found) (ids_at spots c.open.new.found.items) i [] (c.loop-number.invariant.walk x b) (ids_lt spots found i lt)
          (subst (λ y. AreFound (Next way es y) (ids_at spots found) (ids_at spots c.open.new.found.items)) here c.open.ensures.found);
      capacity = c.open.ensures.capacity ∙ c.loop-number.invariant.capacity;
      marks = c.open.ensures.marks ∙ c.loop-number.invariant.marks;
    }

pub unmark-requires : goal.unmark-requires
unmark-requires g c p m =
    let s = c.loop-number.invariant.search in
    let inside = within c.args.slots.now.spots p (s.standing.stand p (subst (λ l. Contains l p) c.as_slice.ensures.value m)) in
    omega (arith, inside, s.len)

pub returns-clause-led : goal.returns-clause-led
returns-clause-led g c x b h n =
    let spots = c.args.slots.now.spots in
    let found = c.loop-number.found.items in
    let end : length found ≤ c.loop-number.number = search rules in
    Walk-end c.args.way (nodes_of c.args.slots.now.held) x (ids_at spots found) c.loop-number.number (c.loop-number.invariant.walk x b) (ids_le spots found c.loop-number.number end) h n

pub returns-clause-standing : goal.returns-clause-standing
returns-clause-standing g c = c.loop-number.invariant.search.standing

pub returns-clause-clear : goal.returns-clause-clear
returns-clause-clear g c =
    let s = c.loop-number.invariant.search in
    record {
      len = c.unmark.ensures.len ∙ s.len;
      clear = c.unmark.ensures.clear (λ p t. subst (λ l. Contains l p) (sym c.as_slice.ensures.value) (s.only p t));
    }
