use Rattle.std.proofs.Common.{ap, sym, subst, ◌∙◌, length, arith, is_some}
use Rattle.std.specs.Prelude.{filter, sum_by}
use Rattle.std.specs.Str.{bytes_eq}
use Rattle.indexmap.specs.IndexMap.{get}
use Rattle.gate_graph.specs.Holding.{Stored, has_id, nodes_of, spots_of}
use Rattle.gate_graph.specs.Slots.{entries_of, Indexes, Covers}
use Rattle.gate_graph.proofs.Closing.{Covers-closed, entries_of-closed}
use Rattle.gate_graph.proofs.Ranks.{closed_keys, spots_of-closed}
use Rattle.gate_graph.proofs.slots.Slots.close_up.Goals as goal

pub renumber-requires : goal.renumber-requires
renumber-requires g c = subst (λ l. Covers has_id l (get bytes_eq c.self.inside.places)) (sym (c.deref.ensures.value ∙ c.close.ensures)) (Covers-closed c.self.invariant.0.places)

pub invariant_of-self : goal.invariant_of-self
invariant_of-self g c =
    let slots = c.self.inside.slots.items in
    let closed = ap entries_of c.close.ensures ∙ entries_of-closed slots in (
      record {
        places = subst (λ l. Indexes has_id l (get bytes_eq c.renumber.new.places)) c.deref.ensures.value c.renumber.ensures.places;
        count = c.renumber.ensures.count ∙ c.self.invariant.0.count ∙ ap length (sym closed);
      },
      record {
        place = omega arith;
        slot = λ l. absurd (omega (arith, l));
        near = λ l. absurd (omega (arith, l));
      },
      record {
        keys = closed_keys slots c.close.new.slots.items c.self.inside.ranking.keys c.close_up.new.self.keys c.self.invariant.2.keys c.close.ensures c.close_up.ensures.keys;
        ranks_room = omega arith;
        sum = c.self.invariant.2.sum ∙ ap (λ hs. sum_by (λ n. n.size) (nodes_of hs)) (sym closed);
      },
    )

pub returns-clause-held : goal.returns-clause-held
returns-clause-held g c = ap entries_of c.close.ensures ∙ entries_of-closed c.self.inside.slots.items ∙ ap (λ (s : Stored g.row.T.Denot). s.held) c.self.view_is

pub returns-clause-spots : goal.returns-clause-spots
returns-clause-spots g c = ap spots_of c.close.ensures ∙ spots_of-closed c.self.inside.slots.items ∙ ap (λ (s : Stored g.row.T.Denot). filter is_some s.spots) c.self.view_is
