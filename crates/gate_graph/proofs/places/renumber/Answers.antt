use Rattle.std.proofs.Common.{◌≡◌, ◌+◌, arith, Some, Result, Ok, Err, is_some, true, if◌then◌else◌, refl, ap, sym, subst, ◌∙◌, true≢false, IsOk, OnErr, Option, None}
use Rattle.std.specs.Str.{bytes_eq}
use Rattle.std.specs.Cmp.Lexicographic.{bytes_decides}
use Rattle.indexmap.specs.IndexMap.{get, index_map_len}
use Rattle.gate_graph.specs.Holding.{has_id}
use Rattle.gate_graph.specs.Slots.{at}
use Rattle.gate_graph.proofs.Closing.{Moved, Moved-known, Moved-step, Moved-skip, at_read}
use Rattle.gate_graph.proofs.places.renumber.Goals as goal
use Rattle.gate_graph.proofs.places.renumber.Goals.{in-Some, in-None}

-- an insert at a key that is there succeeds
ok_where_present : {A E V : Type 0} (r : Result A E) (o : Option V) → OnErr r (o ≡ None) → is_some o ≡ true → IsOk r
ok_where_present (Ok a) o none some = refl
ok_where_present (Err e) o none some = absurd (true≢false (sym some ∙ ap is_some none))

pub unwrap-requires : goal.unwrap-requires
unwrap-requires g c =
    let e = c.in-Some.held in
    let here : at c.args.slots.now c.loop-place.place ≡ Some e = at_read c.args.slots.now c.loop-place.place c.index-slots-place.result c.loop-place-test.true c.index-slots-place.is ∙ c.in-Some.is in
    ok_where_present c.insert-moved.result (get bytes_eq c.loop-place.places e.id) c.insert-moved.ensures.absent
    (Moved-known c.requires c.loop-place.invariant.places e here e.id ((bytes_decides e.id e.id).1 refl))

pub loop-place-preserved : goal.loop-place-preserved
loop-place-preserved g c =
    let read = at_read c.args.slots.now c.loop-place.place c.index-slots-place.result c.loop-place-test.true c.index-slots-place.is in
    elim c.match-slots-place.branch [
      | in-Some w ↦
          let e = w.in-Some.held in
          let here : at c.args.slots.now c.loop-place.place ≡ Some e = read ∙ w.in-Some.is in
          let place = c.loop-place.place in
          let updates = rw w.unwrap.ensures at w.insert-moved.ensures.updates in
          let known = Moved-known c.requires c.loop-place.invariant.places e here e.id ((bytes_decides e.id e.id).1 refl) in
          let before = rw w.unwrap.ensures at w.insert-moved.ensures.old in
          let more = rw w.unwrap.ensures at w.insert-moved.ensures.len in
          let same : index_map_len c.loop-place.places + 0 ≡ index_map_len c.args.places.now = omega (arith, c.loop-place.invariant.count) in
          record {
            places = subst (λ m. Moved has_id c.args.slots.now (place + 1) (get bytes_eq c.args.places.now) (get bytes_eq m)) (sym w.places-is) (Moved-step c.requires c.loop-place.invariant.places e here (λ k. updates.0 k));
            count = ap index_map_len w.places-is ∙ more ∙ ap (λ b. index_map_len c.loop-place.places + (if b then 0 else 1)) (ap is_some before ∙ known) ∙ same;
          }
      | in-None w ↦
          let none = read ∙ w.in-None.is in
          record {
            places = subst (λ m. Moved has_id c.args.slots.now (c.loop-place.place + 1) (get bytes_eq c.args.places.now) (get bytes_eq m)) (sym w.places-is) (Moved-skip c.loop-place.invariant.places none);
            count = ap index_map_len w.places-is ∙ c.loop-place.invariant.count;
          }
    ]
