use Rattle.std.proofs.Common.{◌≡◌, take, map, length}
use Rattle.std.specs.Vec.{vec_capacity}
use Rattle.gate_graph.specs.Holding.{ids_at, nodes_of}
use Rattle.gate_graph.specs.Walking.{AreClear}
use Rattle.gate_graph.specs.Weighing.{refreshed}
use Rattle.gate_graph.proofs.refresh.refresh_each.Given as goal

abbrev pub invariant-loop-place : goal.invariant-loop-place
invariant-loop-place g l = record {
  all : l.slots.held ≡ map (refreshed (nodes_of l.initial.slots.held) (take l.place-index (ids_at l.initial.slots.spots l.places))) l.initial.slots.held;
  spots : l.slots.spots ≡ l.initial.slots.spots;
  clear : AreClear (length l.initial.slots.spots) l.marks.items;
  marks : vec_capacity l.marks ≡ vec_capacity l.initial.marks;
  capacity : vec_capacity l.found ≡ vec_capacity l.initial.found;
  room : l.slots.room ≡ l.initial.slots.room;
}
