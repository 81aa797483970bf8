use Rattle.std.proofs.Common.{◌≡◌, true, ap, sym, subst, refl, ◌∙◌, map, arith, is_some}
use Rattle.gate_graph.specs.Slots.{at}
use Rattle.gate_graph.specs.Holding.{Stored, id_at, at_id, with_totals, spots_of}
use Rattle.gate_graph.proofs.Placing.{held_written, IsPlaced-written, place_look, slot_filled, spots_of-write}
use Rattle.gate_graph.proofs.Ranks.{total, total-write, written_keys, written_here, written_stands, stands_within, length-keys}
use Rattle.gate_graph.proofs.slots.Slots.set_totals.Goals as goal

pub standing-requires : goal.standing-requires
standing-requires g c =
    let slots = c.self.inside.slots.items in
    let stands = slot_filled slots c.args.place (ap (λ (s : Stored g.row.T.Denot). is_some (at s.spots c.args.place)) c.self.view_is ∙ c.requires) in
    subst (λ l. is_some (at l c.args.place) ≡ true) (sym c.deref.ensures.value) (written_stands (with_totals c.args.totals) slots c.write.new.slots.items c.args.place stands c.write.ensures.written)

pub update-requires : goal.update-requires
update-requires g c =
    let slots = c.self.inside.slots.items in
    let stands = slot_filled slots c.args.place (ap (λ (s : Stored g.row.T.Denot). is_some (at s.spots c.args.place)) c.self.view_is ∙ c.requires) in
    omega (arith, stands_within slots c.args.place stands, length-keys slots c.self.inside.ranking.keys c.self.invariant.2.keys)

pub invariant_of-self : goal.invariant_of-self
invariant_of-self g c =
    let p = c.args.place in
    let slots = c.self.inside.slots.items in
    let stands = ap (λ (s : Stored g.row.T.Denot). is_some (at s.spots p)) c.self.view_is ∙ c.requires in (
      IsPlaced-written c.self.invariant.0 (id_at (spots_of c.self.inside.slots.items) p) p c.args.totals c.write.new.slots.items (place_look c.self.invariant.0 p stands) c.write.ensures.written,
      record {
        place = c.self.invariant.1.place;
        slot = λ l. omega (arith, c.self.invariant.1.slot l, c.write.ensures.len, c.write.ensures.capacity);
        near = c.self.invariant.1.near;
      },
      record {
        keys = written_keys (with_totals c.args.totals) slots c.write.new.slots.items p c.standing.result.now c.rate-rate.result c.self.inside.ranking.keys c.update.new.self.keys c.self.invariant.2.keys c.write.ensures.written
            (sym (written_here (with_totals c.args.totals) slots c.write.new.slots.items p c.write.ensures.written) ∙ rw c.deref.ensures.value at c.standing.ensures)
            c.rate-rate.ensures c.update.ensures.keys;
        ranks_room = omega (arith, c.self.invariant.2.ranks_room, c.update.ensures.room);
        sum = c.self.invariant.2.sum ∙ sym (ap total c.write.ensures.written ∙ total-write (with_totals c.args.totals) (λ h. refl) slots p);
      },
    )

pub returns-clause-held : goal.returns-clause-held
returns-clause-held g c =
    let p = c.args.place in
    let stands = ap (λ (s : Stored g.row.T.Denot). is_some (at s.spots p)) c.self.view_is ∙ c.requires in
    held_written c.self.invariant.0 (id_at (spots_of c.self.inside.slots.items) p) p c.args.totals c.write.new.slots.items (place_look c.self.invariant.0 p stands) c.write.ensures.written
    ∙ ap (λ (s : Stored g.row.T.Denot). map (at_id (id_at s.spots p) (with_totals c.args.totals)) s.held) c.self.view_is

pub returns-clause-spots : goal.returns-clause-spots
returns-clause-spots g c =
    ap spots_of c.write.ensures.written ∙ spots_of-write c.self.inside.slots.items c.args.place c.args.totals ∙ ap (λ (s : Stored g.row.T.Denot). s.spots) c.self.view_is
