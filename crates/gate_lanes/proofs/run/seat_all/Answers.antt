use Rattle.std.proofs.Common.{◌≡◌, ◌<◌, ◌∷◌, [], ◌++◌, length, map, sym, ap, ◌∙◌, append_assoc, length-append, arith}
use Rattle.std.specs.Vec.Iter.{into_iter_items}
use Rattle.std.proofs.lemmas.List.{length-map, length_push}
use Rattle.gate_lanes.proofs.Parting.{map_pushed, one_longer, some_done}
use Rattle.gate_lanes.proofs.run.seat_all.Goals as goal

pub seat-seat-requires : goal.seat-seat-requires
seat-seat-requires g c =
    let it = c.loop-lane in
    let x = c.in-Some.lane in
    let steps : into_iter_items it.lane-iterator ≡ x ∷ into_iter_items c.next.new.self = c.in-Some.ensures.steps.0 in
    let all : c.args.lanes.items ≡ it.yielded ++ x ∷ into_iter_items c.next.new.self =
    some_done it.yielded _ _ _ c.args.lanes.items steps it.invariant.0 c.into_iter-lane-iterator.ensures.into_iter_gives.0 in
    omega (arith, c.requires, it.invariant.2, ap length all, length-append it.yielded (x ∷ into_iter_items c.next.new.self), ap length it.invariant.1, length-map it.all.items (λ one. one.lane))

pub loop-lane-preserved : goal.loop-lane-preserved
loop-lane-preserved g c =
    let it = c.loop-lane in
    let x = c.in-Some.lane in
    let steps : into_iter_items it.lane-iterator ≡ x ∷ into_iter_items c.next.new.self = c.in-Some.ensures.steps.0 in (
      append_assoc it.yielded (x ∷ []) _ ∙ rw (← steps) it.invariant.0,
      map_pushed _ it.all.items _ _ it.yielded it.invariant.1 c.in_ok-push.ensures.items,
      omega (arith, it.invariant.2, c.seat-seat.ensures, one_longer it.all.items _ _ c.in_ok-push.ensures.items),
    )
