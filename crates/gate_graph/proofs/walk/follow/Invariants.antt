use Rattle.std.proofs.Common.{◌≡◌, ◌-◌, ◌^◌, List, ℕ}
use Rattle.std.specs.Vec.{vec_capacity}
use Rattle.gate_graph.specs.Holding.{ids_at, nodes_of}
use Rattle.gate_graph.specs.Walking.{Begins, IsSearch}
use Rattle.gate_graph.proofs.Finding.{Walk}
use Rattle.gate_graph.proofs.walk.follow.Given as goal

abbrev pub invariant-loop-number : goal.invariant-loop-number
invariant-loop-number g l = record {
  search : IsSearch (nodes_of l.slots.held) l.slots.spots l.marks.items l.found.items;
  walk : (x : List ℕ) → Begins l.way (nodes_of l.slots.held) x (ids_at l.slots.spots l.initial.found.items) → Walk l.way (nodes_of l.slots.held) x (ids_at l.slots.spots l.found.items) l.number;
  capacity : vec_capacity l.found ≡ vec_capacity l.initial.found;
  marks : vec_capacity l.marks ≡ vec_capacity l.initial.marks;
}

-- no list is longer than this
abbrev pub decreases-loop-number : goal.decreases-loop-number
decreases-loop-number g l = 2 ^ 63 - l.number
