use Rattle.std.proofs.Common.{◌≡◌, ℕ, List, take, length}
use Rattle.std.specs.Prelude.{Contains}
use Rattle.std.specs.Vec.{vec_capacity}
use Rattle.gate_graph.specs.Walking.{AreClear}
use Rattle.gate_graph.specs.Merging.{GainsOne}
use Rattle.gate_graph.proofs.merge.each_gains_one.Given as goal

abbrev pub invariant-loop-id : goal.invariant-loop-id
invariant-loop-id g l = record {
  gain : (id : List ℕ) → Contains (take l.id-index l.ids) id → GainsOne l.slots.held id;
  clear : AreClear (length l.slots.spots) l.marks.items;
  marks : vec_capacity l.marks ≡ vec_capacity l.initial.marks;
  capacity : vec_capacity l.found ≡ vec_capacity l.initial.found;
}
