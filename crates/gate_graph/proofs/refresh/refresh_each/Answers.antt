use Rattle.std.proofs.Common.{◌∙◌, ◌≤◌, [], sym, ap, map, subst, refl, arith, rules, length, take, get_or}
use Rattle.std.proofs.lemmas.List.{take_more, take_all, length-map}
use Rattle.gate_graph.specs.Families.{are_apart}
use Rattle.gate_graph.specs.Holding.{ids_at, nodes_of, at_id, with_totals}
use Rattle.gate_graph.specs.Linking.{IsLinked}
use Rattle.gate_graph.specs.Walking.{AreClear}
use Rattle.gate_graph.specs.Weighing.{refreshed, totals_of, AreSmall}
use Rattle.gate_graph.proofs.Marking.{same_at, stands_at, ids_lt, ids_le}
use Rattle.gate_graph.proofs.Refreshing.{nodes_refreshed, refreshed_none, refreshed_more}
use Rattle.gate_graph.proofs.refresh.refresh_each.Goals as goal

pub loop-place-init : goal.loop-place-init
loop-place-init g c = record { all = refreshed_none (nodes_of c.args.slots.now.held) c.args.slots.now.held; spots = refl; clear = c.requires.clear; marks = refl; capacity = refl; room = refl }

pub refresh-requires-clause-room : goal.refresh-requires-clause-room
refresh-requires-clause-room g c =
    omega (arith, c.requires.room, c.loop-place.invariant.capacity, ap length c.loop-place.invariant.all, length-map c.args.slots.now.held (refreshed (nodes_of c.args.slots.now.held) (take c.loop-place.place-index (ids_at c.args.slots.now.spots c.args.places.now))))

pub refresh-requires-clause-apart : goal.refresh-requires-clause-apart
refresh-requires-clause-apart g c =
    let same = ap nodes_of c.loop-place.invariant.all ∙ nodes_refreshed (nodes_of c.args.slots.now.held) (take c.loop-place.place-index (ids_at c.args.slots.now.spots c.args.places.now)) c.args.slots.now.held in
    ap are_apart same ∙ c.requires.apart

pub refresh-requires-clause-linked : goal.refresh-requires-clause-linked
refresh-requires-clause-linked g c =
    let same = ap nodes_of c.loop-place.invariant.all ∙ nodes_refreshed (nodes_of c.args.slots.now.held) (take c.loop-place.place-index (ids_at c.args.slots.now.spots c.args.places.now)) c.args.slots.now.held in
    subst (λ l. IsLinked l c.args.links.now) (sym same) c.requires.linked

pub refresh-requires-clause-small : goal.refresh-requires-clause-small
refresh-requires-clause-small g c =
    let same = ap nodes_of c.loop-place.invariant.all ∙ nodes_refreshed (nodes_of c.args.slots.now.held) (take c.loop-place.place-index (ids_at c.args.slots.now.spots c.args.places.now)) c.args.slots.now.held in
    subst AreSmall (sym same) c.requires.small

pub refresh-requires-clause-stands : goal.refresh-requires-clause-stands
refresh-requires-clause-stands g c = stands_at c.args.slots.now.spots c.loop-place.slots.spots c.args.places.now c.loop-place.place-index 0 c.requires.standing c.loop-place.invariant.spots c.loop-place-test.true

pub refresh-requires-clause-clear : goal.refresh-requires-clause-clear
refresh-requires-clause-clear g c = subst (λ s. AreClear (length s) c.loop-place.marks.items) (sym c.loop-place.invariant.spots) c.loop-place.invariant.clear

pub loop-place-preserved : goal.loop-place-preserved
loop-place-preserved g c =
    let hs = c.args.slots.now.held in
    let spots = c.args.slots.now.spots in
    let places = c.args.places.now in
    let ids = ids_at spots places in
    let i = c.loop-place.place-index in
    let lt = ids_lt spots places i c.loop-place-test.true in
    let x = get_or ids i [] in
    let at = same_at spots c.loop-place.slots.spots places i 0 c.loop-place.invariant.spots c.loop-place-test.true in
    let same = ap nodes_of c.loop-place.invariant.all ∙ nodes_refreshed (nodes_of hs) (take i ids) hs in
    record {
      all = c.refresh.ensures.refreshed
          ∙ ap (λ y. map (at_id y (with_totals (totals_of (nodes_of c.loop-place.slots.held) y))) c.loop-place.slots.held) at
          ∙ ap (λ l. map (at_id x (with_totals (totals_of l x))) c.loop-place.slots.held) same
          ∙ ap (map (at_id x (with_totals (totals_of (nodes_of hs) x)))) c.loop-place.invariant.all
          ∙ refreshed_more (nodes_of hs) (take i ids) x hs
          ∙ ap (λ l. map (refreshed (nodes_of hs) l) hs) (sym (take_more ids i [] lt));
      spots = c.refresh.ensures.spots ∙ c.loop-place.invariant.spots;
      clear = subst (λ s. AreClear (length s) c.refresh.new.marks.items) c.loop-place.invariant.spots c.refresh.ensures.clear;
      marks = c.refresh.ensures.marks ∙ c.loop-place.invariant.marks;
      capacity = c.refresh.ensures.capacity ∙ c.loop-place.invariant.capacity;
      room = c.refresh.ensures.slots_room ∙ c.loop-place.invariant.room;
    }

pub returns-clause-refreshed : goal.returns-clause-refreshed
returns-clause-refreshed g c =
    let spots = c.args.slots.now.spots in
    let places = c.args.places.now in
    let i = c.loop-place.place-index in
    let end : length places ≤ i = search rules in
    c.loop-place.invariant.all ∙ ap (λ l. map (refreshed (nodes_of c.args.slots.now.held) l) c.args.slots.now.held) (take_all i (ids_at spots places) (ids_le spots places i end))
