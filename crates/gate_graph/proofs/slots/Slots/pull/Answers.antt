use Rattle.std.proofs.Common.{◌≡◌, not, None, Some, ap, sym, ◌∙◌, ◌+◌, if◌then◌else◌, arith, is_some}
use Rattle.std.specs.Prelude.{find, filter, slice_set}
use Rattle.std.specs.Option.{option_map}
use Rattle.indexmap.specs.IndexMap.{index_map_len}
use Rattle.gate_graph.specs.declared.held.Held.{Held}
use Rattle.gate_graph.specs.Slots.{at}
use Rattle.gate_graph.specs.Holding.{has_id, id_at, spots_of, Stored}
use Rattle.gate_graph.proofs.Placing.{held_taken, IsPlaced-taken, place_look, found_at, place_whole, spot_is, spots_of-set, slot_filled}
use Rattle.gate_graph.proofs.Ranks.{total, total-take, taken_keys, stands_within, length-keys}
use Rattle.gate_graph.proofs.slots.Slots.pull.Goals as goal

pub empty-held-requires : goal.empty-held-requires
empty-held-requires g c = slot_filled c.self.inside.slots.items c.args.place (ap (λ (s : Stored g.row.T.Denot). is_some (at s.spots c.args.place)) c.self.view_is ∙ c.requires)

pub remove-requires : goal.remove-requires
remove-requires g c =
    let slots = c.self.inside.slots.items in
    let stands = slot_filled slots c.args.place (ap (λ (s : Stored g.row.T.Denot). is_some (at s.spots c.args.place)) c.self.view_is ∙ c.requires) in
    omega (arith, stands_within slots c.args.place stands, length-keys slots c.self.inside.ranking.keys c.self.invariant.2.keys)

pub overflow_sub-self : goal.overflow_sub-self
overflow_sub-self g c =
    let within = total-take c.self.inside.slots.items c.args.place c.empty-held.result c.empty-held.ensures.taken in
    omega (arith, within, c.self.invariant.2.sum, c.from.ensures)

pub invariant_of-self : goal.invariant_of-self
invariant_of-self g c =
    let p = c.args.place in
    let x = c.empty-held.result.id in
    let here : at (spots_of c.self.inside.slots.items) p ≡ Some x = spot_is c.self.inside.slots.items p ∙ ap (option_map (λ (h : Held g.row.T.Denot). h.id)) c.empty-held.ensures.taken in
    let look = place_whole c.self.invariant.0 x p here in
    let len = sym (ap (λ o. index_map_len c.swap_remove.new.self + (if is_some o then 1 else 0)) (c.swap_remove.ensures.value ∙ look)) ∙ c.swap_remove.ensures.len in (
      IsPlaced-taken c.self.invariant.0 x p c.empty-held.new.slots.items _ _ look c.empty-held.ensures.emptied (λ k. c.swap_remove.ensures.updates.0 k) len,
      record {
        place = omega (arith, c.self.invariant.1.place, c.swap_remove.ensures.room.0);
        slot = λ l. omega (arith, c.self.invariant.1.slot l, c.empty-held.ensures.len, c.empty-held.ensures.capacity);
        near = c.self.invariant.1.near;
      },
      record {
        keys = taken_keys c.self.inside.slots.items c.empty-held.new.slots.items p c.self.inside.ranking.keys c.remove.new.self.keys c.self.invariant.2.keys c.empty-held.ensures.emptied c.remove.ensures.keys;
        ranks_room = omega (arith, c.self.invariant.2.ranks_room, c.remove.ensures.room);
        sum = omega (arith, total-take c.self.inside.slots.items p c.empty-held.result c.empty-held.ensures.taken, c.self.invariant.2.sum, ap total c.empty-held.ensures.emptied, c.from.ensures);
      },
    )

pub returns-clause-taken : goal.returns-clause-taken
returns-clause-taken g c =
    let p = c.args.place in
    let stands = ap (λ (s : Stored g.row.T.Denot). is_some (at s.spots p)) c.self.view_is ∙ c.requires in
    ap (λ (s : Stored g.row.T.Denot). find (λ h. has_id h (id_at s.spots p)) s.held) (sym c.self.view_is) ∙ found_at c.self.invariant.0 p stands ∙ c.empty-held.ensures.taken

pub returns-clause-left : goal.returns-clause-left
returns-clause-left g c =
    let p = c.args.place in
    let stands = ap (λ (s : Stored g.row.T.Denot). is_some (at s.spots p)) c.self.view_is ∙ c.requires in
    held_taken c.self.invariant.0 (id_at (spots_of c.self.inside.slots.items) p) p c.empty-held.new.slots.items (place_look c.self.invariant.0 p stands) c.empty-held.ensures.emptied
    ∙ ap (λ (s : Stored g.row.T.Denot). filter (λ h. not (has_id h (id_at s.spots p))) s.held) c.self.view_is

pub returns-clause-spots : goal.returns-clause-spots
returns-clause-spots g c =
    ap spots_of c.empty-held.ensures.emptied ∙ spots_of-set c.self.inside.slots.items c.args.place None ∙ ap (λ (s : Stored g.row.T.Denot). slice_set s.spots c.args.place None) c.self.view_is
