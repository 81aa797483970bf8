use Rattle.std.proofs.Common.{◌≡◌, take, length}
use Rattle.std.specs.Vec.{vec_capacity}
use Rattle.gate_graph.specs.Holding.{ids_at, nodes_of, loaded}
use Rattle.gate_graph.specs.Walking.{AreClear}
use Rattle.gate_graph.specs.Weighing.{IsCounted}
use Rattle.gate_graph.proofs.weigh.lower_above_each.Given as goal

-- the totals are without the nodes so far
abbrev pub invariant-loop-place : goal.invariant-loop-place
invariant-loop-place g l = record {
  counted : IsCounted (nodes_of l.initial.slots.held) (take l.place-index (ids_at l.initial.slots.spots l.places)) l.slots.held;
  loaded : loaded l.slots.held ≡ loaded l.initial.slots.held;
  spots : l.slots.spots ≡ l.initial.slots.spots;
  clear : AreClear (length l.initial.slots.spots) l.marks.items;
  marks : vec_capacity l.marks ≡ vec_capacity l.initial.marks;
  slots_room : l.slots.room ≡ l.initial.slots.room;
  capacity : vec_capacity l.above ≡ vec_capacity l.initial.above;
}
