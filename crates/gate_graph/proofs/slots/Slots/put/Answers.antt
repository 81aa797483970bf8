use Rattle.std.proofs.Common.{◌++◌, ◌∷◌, [], ◌+◌, ◌<◌, ◌^◌, rules, ap, sym, ◌∙◌, length, is_some, Some, if◌then◌else◌, arith}
use Rattle.std.specs.Prelude.{sum_by}
use Rattle.std.specs.Str.{bytes_eq}
use Rattle.indexmap.specs.IndexMap.{get, index_map_len}
use Rattle.gate_graph.specs.Families.{has}
use Rattle.gate_graph.specs.Holding.{Stored, nodes_of, spots_of}
use Rattle.gate_graph.specs.Slots.{entries_of}
use Rattle.gate_graph.proofs.Indexing.{entries_of-push}
use Rattle.gate_graph.proofs.Placing.{IsPlaced-put, spots_of-push, length-spots}
use Rattle.gate_graph.proofs.Ranks.{total, total-push, pushed_keys}
use Rattle.gate_graph.proofs.slots.Slots.put.Goals as goal

pub overflow_add-self : goal.overflow_add-self
overflow_add-self g c =
    let size = ap (λ (s : Stored g.row.T.Denot). sum_by (λ n. n.size) (nodes_of s.held)) c.self.view_is in
    let fits : c.self.inside.size + c.from.result < 2 ^ 128 = omega (arith, size, c.self.invariant.2.sum, c.requires.fits, c.from.ensures) in
    search rules

pub push-requires : goal.push-requires
push-requires g c =
    let room = ap (λ (s : Stored g.row.T.Denot). s.room) c.self.view_is in
    omega (arith, room, c.self.invariant.2.ranks_room, c.requires.room)

pub invariant_of-self : goal.invariant_of-self
invariant_of-self g c =
    let h = c.args.held in
    let old = c.self.inside.places in
    let updates = rw c.unwrap.ensures at c.insert-put.ensures.updates in
    let len = rw c.unwrap.ensures at c.insert-put.ensures.len in
    let before = rw c.unwrap.ensures at c.insert-put.ensures.old in
    let room = ap (λ (s : Stored g.row.T.Denot). s.room) c.self.view_is in
    let spare_is = c.insert-put.ensures.spare in (
      IsPlaced-put h (length c.as_slice-place.result.now) c.push_reserved-2.new.self.items (index_map_len c.insert-put.new.self) (get bytes_eq c.insert-put.new.self) c.self.invariant.0
          (ap (λ (s : Stored g.row.T.Denot). has (nodes_of s.held) h.id) c.self.view_is ∙ c.requires.new)
          (ap length c.as_slice-place.ensures.value)
          c.push_reserved-2.ensures.items
          (λ k. updates.0 k)
          (λ absent. len ∙ ap (λ o. index_map_len old + (if is_some o then 0 else 1)) (before ∙ absent)),
      record {
        place = omega (arith, room, c.self.invariant.1.place, c.requires.room, spare_is);
        slot = λ l. omega (arith, room, c.self.invariant.1.slot (omega (arith, room, c.requires.room)), c.push_reserved-2.ensures.len, c.push_reserved-2.ensures.capacity);
        near = λ l. omega (arith, room, c.self.invariant.1.near (omega (arith, room, c.requires.room)), c.push_reserved.ensures.len, c.push_reserved.ensures.capacity);
      },
      record {
        keys = pushed_keys c.self.inside.slots.items c.push_reserved-2.new.self.items h c.rate.result c.self.inside.ranking.keys c.push.new.self.keys c.self.invariant.2.keys c.push_reserved-2.ensures.items c.rate.ensures c.push.ensures.keys;
        ranks_room = omega (arith, room, c.self.invariant.2.ranks_room, c.requires.room, c.push.ensures.room);
        sum = omega (arith, total-push c.self.inside.slots.items h, c.self.invariant.2.sum, ap total c.push_reserved-2.ensures.items, c.from.ensures);
      },
    )

pub returns-clause-held : goal.returns-clause-held
returns-clause-held g c =
    let h = c.args.held in
    ap entries_of c.push_reserved-2.ensures.items ∙ entries_of-push c.self.inside.slots.items h ∙ ap (λ (s : Stored g.row.T.Denot). s.held ++ h ∷ []) c.self.view_is

pub returns-clause-spots : goal.returns-clause-spots
returns-clause-spots g c =
    let h = c.args.held in
    ap spots_of c.push_reserved-2.ensures.items ∙ spots_of-push c.self.inside.slots.items (Some h) ∙ ap (λ (s : Stored g.row.T.Denot). s.spots ++ Some h.id ∷ []) c.self.view_is

pub returns-clause-place : goal.returns-clause-place
returns-clause-place g c =
    ap length c.as_slice-place.ensures.value ∙ sym (length-spots c.self.inside.slots.items) ∙ ap (λ (s : Stored g.row.T.Denot). length s.spots) c.self.view_is
