use Rattle.std.proofs.Common.{◌≡◌, Some, None, ap, sym, subst, ◌∙◌, is_some, length, map, ◌<◌, arith}
use Rattle.std.specs.Prelude.{slice_set}
use Rattle.std.specs.List.Sorted.{IsPermutation}
use Rattle.std.specs.Option.{option_map}
use Rattle.std.specs.Str.{bytes_eq}
use Rattle.std.proofs.lemmas.List.{length-set, get_or-set_other}
use Rattle.std.proofs.lemmas.Option.{none-some}
use Rattle.indexmap.specs.IndexMap.{get, index_map_len}
use Rattle.gate_graph.specs.declared.held.Held.{Held}
use Rattle.gate_graph.specs.Holding.{Stored, spots_of, IsPlaced}
use Rattle.gate_graph.specs.Ranks.{rate_of}
use Rattle.gate_graph.specs.Slots.{at, entries_of}
use Rattle.gate_graph.proofs.Placing.{slot_filled, spot_is, place_whole, length-spots}
use Rattle.gate_graph.proofs.Ranks.{total, stands_within, length-keys}
use Rattle.gate_graph.proofs.Relocating.{no_node, moved_permutes, moved_placed, moved_keys, moved_spots, moved_sum}
use Rattle.gate_graph.proofs.slots.Slots.relocate.Given.{Over}
use Rattle.gate_graph.proofs.slots.Slots.relocate.Goals.{After-empty-held}
use Rattle.gate_graph.proofs.slots.Slots.relocate.Goals as goal

-- where the node goes is a hole among the slots
hole : (g : Over) (c : After-empty-held g) → at c.self.inside.slots.items c.args.to ≡ None
hole g c = no_node c.self.inside.slots.items c.args.to (ap (λ (s : Stored g.row.T.Denot). at s.spots c.args.to) c.self.view_is ∙ c.requires.hole)

within : (g : Over) (c : After-empty-held g) → c.args.to < length c.self.inside.slots.items
within g c = omega (arith, c.requires.within, ap (λ (s : Stored g.row.T.Denot). length s.spots) c.self.view_is, length-spots c.self.inside.slots.items)

known : (g : Over) (c : After-empty-held g) → get bytes_eq c.self.inside.places c.empty-held.result.id ≡ Some c.args.from
known g c =
    let slots = c.self.inside.slots.items in
    let x = c.empty-held.result.id in
    place_whole c.self.invariant.0 x c.args.from (spot_is slots c.args.from ∙ ap (option_map (λ (h : Held g.row.T.Denot). h.id)) c.empty-held.ensures.taken)

pub empty-held-requires : goal.empty-held-requires
empty-held-requires g c = slot_filled c.self.inside.slots.items c.args.from (ap (λ (s : Stored g.row.T.Denot). is_some (at s.spots c.args.from)) c.self.view_is ∙ c.requires.stands)

pub overwrite-requires : goal.overwrite-requires
overwrite-requires g c = ap is_some (known g (goal.at.overwrite-requires g c).After-empty-held)

pub remove-requires : goal.remove-requires
remove-requires g c =
    let slots = c.self.inside.slots.items in
    let stands = slot_filled slots c.args.from (ap (λ (s : Stored g.row.T.Denot). is_some (at s.spots c.args.from)) c.self.view_is ∙ c.requires.stands) in
    omega (arith, stands_within slots c.args.from stands, length-keys slots c.self.inside.ranking.keys c.self.invariant.2.keys)

pub update-requires : goal.update-requires
update-requires g c =
    let slots = c.self.inside.slots.items in
    let w = goal.at.update-requires g c in
    omega (arith, within g w.After-empty-held, length-keys slots c.self.inside.ranking.keys c.self.invariant.2.keys, ap length c.remove.ensures.keys, length-set c.self.inside.ranking.keys c.args.from None)

pub fill-requires-clause-hole : goal.fill-requires-clause-hole
fill-requires-clause-hole g c =
    let slots = c.self.inside.slots.items in
    let w = goal.at.fill-requires-clause-hole g c in
    let none = hole g w.After-empty-held in
    ap (λ l. at l c.args.to) c.empty-held.ensures.emptied ∙ get_or-set_other slots c.args.from c.args.to None None (λ e. none-some _ (sym none ∙ ap (at slots) e ∙ c.empty-held.ensures.taken)) ∙ none

pub fill-requires-clause-within : goal.fill-requires-clause-within
fill-requires-clause-within g c =
    let w = goal.at.fill-requires-clause-within g c in
    omega (arith, within g w.After-empty-held, c.empty-held.ensures.len)

pub invariant_of-self : goal.invariant_of-self
invariant_of-self g c =
    let w = goal.at.invariant_of-self g c in
    let slots = c.self.inside.slots.items in
    let h = c.empty-held.result in
    let stands = c.empty-held.ensures.taken in
    let none = hole g w.After-empty-held in
    let lt = within g w.After-empty-held in
    let is = c.fill.ensures.filled ∙ ap (λ l. slice_set l c.args.to (Some h)) c.empty-held.ensures.emptied in (
      subst (λ l. IsPlaced l (index_map_len c.overwrite.new.table) (get bytes_eq c.overwrite.new.table)) (sym is)
          (moved_placed slots c.args.from c.args.to h stands none lt (index_map_len c.self.inside.places) (index_map_len c.overwrite.new.table) (get bytes_eq c.self.inside.places) (get bytes_eq c.overwrite.new.table) c.self.invariant.0 c.overwrite.ensures.count c.overwrite.ensures.look),
      record {
        place = omega (arith, c.self.invariant.1.place, c.overwrite.ensures.room);
        slot = λ l. omega (arith, c.self.invariant.1.slot l, c.empty-held.ensures.len, c.empty-held.ensures.capacity, c.fill.ensures.len, c.fill.ensures.capacity);
        near = λ l. omega (arith, c.self.invariant.1.near l, c.move_near.ensures.len, c.move_near.ensures.capacity);
      },
      record {
        keys = moved_keys slots c.args.from c.args.to h stands none lt c.rate.result c.self.inside.ranking.keys c.remove.new.self.keys c.update.new.self.keys c.self.invariant.2.keys c.rate.ensures c.remove.ensures.keys c.update.ensures.keys ∙ ap (map (option_map rate_of)) (sym is);
        ranks_room = omega (arith, c.self.invariant.2.ranks_room, c.remove.ensures.room, c.update.ensures.room);
        sum = c.self.invariant.2.sum ∙ sym (ap total is ∙ moved_sum slots c.args.from c.args.to h stands none lt);
      },
    )

pub returns-clause-held : goal.returns-clause-held
returns-clause-held g c =
    let w = goal.at.returns-clause-held g c in
    let slots = c.self.inside.slots.items in
    let h = c.empty-held.result in
    let is = c.fill.ensures.filled ∙ ap (λ l. slice_set l c.args.to (Some h)) c.empty-held.ensures.emptied in
    subst (λ (s : Stored g.row.T.Denot). IsPermutation s.held (entries_of c.fill.new.slots.items)) c.self.view_is
    (subst (λ l. IsPermutation (entries_of slots) (entries_of l)) (sym is) (moved_permutes slots c.args.from c.args.to h c.empty-held.ensures.taken (hole g w.After-empty-held) (within g w.After-empty-held)))

pub returns-clause-spots : goal.returns-clause-spots
returns-clause-spots g c =
    let w = goal.at.returns-clause-spots g c in
    let slots = c.self.inside.slots.items in
    let h = c.empty-held.result in
    let is = c.fill.ensures.filled ∙ ap (λ l. slice_set l c.args.to (Some h)) c.empty-held.ensures.emptied in
    ap spots_of is ∙ moved_spots slots c.args.from c.args.to h c.empty-held.ensures.taken (hole g w.After-empty-held) (within g w.After-empty-held)
    ∙ ap (slice_set (slice_set (spots_of slots) c.args.from None) c.args.to) (sym (spot_is slots c.args.from ∙ ap (option_map (λ (k : Held g.row.T.Denot). k.id)) c.empty-held.ensures.taken))
    ∙ ap (λ (s : Stored g.row.T.Denot). slice_set (slice_set s.spots c.args.from None) c.args.to (at s.spots c.args.from)) c.self.view_is
