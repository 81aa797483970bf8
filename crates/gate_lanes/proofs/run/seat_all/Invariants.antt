use Rattle.std.proofs.Common.{◌≡◌, ◌+◌, ◌++◌, length, map}
use Rattle.std.specs.Vec.Iter.{into_iter_items}
use Rattle.gate_lanes.proofs.run.seat_all.Given as goal

abbrev pub invariant-loop-lane : goal.invariant-loop-lane
invariant-loop-lane g l =
    (l.yielded ++ into_iter_items l.lane-iterator ≡ into_iter_items l.initial.lane-iterator)
    × (map (λ one. one.lane) l.all.items ≡ l.yielded)
    × (l.rest + length l.all.items ≡ l.initial.rest)
