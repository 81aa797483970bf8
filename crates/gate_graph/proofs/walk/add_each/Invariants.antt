use Rattle.std.proofs.Common.{◌≡◌, take}
use Rattle.std.specs.Vec.{vec_capacity}
use Rattle.gate_graph.specs.Holding.{ids_at, nodes_of}
use Rattle.gate_graph.specs.Walking.{AreFound, IsOneOf, IsSearch}
use Rattle.gate_graph.proofs.walk.add_each.Given as goal

abbrev pub invariant-loop-id : goal.invariant-loop-id
invariant-loop-id g l = record {
  search : IsSearch (nodes_of l.slots.held) l.slots.spots l.marks.items l.found.items;
  found : AreFound (IsOneOf (nodes_of l.slots.held) (take l.id-index l.ids)) (ids_at l.slots.spots l.initial.found.items) (ids_at l.slots.spots l.found.items);
  capacity : vec_capacity l.found ≡ vec_capacity l.initial.found;
  marks : vec_capacity l.marks ≡ vec_capacity l.initial.marks;
}
