use Rattle.std.proofs.Common.{◌≡◌, ◌≤◌, ◌+◌, ◌++◌, ◌<◌, ℕ, get_or, take, length}
use Rattle.std.specs.Prelude.{vec_len}
use Rattle.std.specs.Vec.{vec_capacity}
use Rattle.gate_graph.specs.Holding.{ids_at, nodes_of, left_of, all_gone, vacated}
use Rattle.gate_graph.specs.Families.{among}
use Rattle.gate_graph.specs.Slots.{at}
use Rattle.gate_graph.specs.Linking.{IsLinked}
use Rattle.gate_graph.proofs.take.pull_each.Given as goal

abbrev pub invariant-loop-place : goal.invariant-loop-place
invariant-loop-place g l = record {
  left : l.slots.held ≡ left_of (take l.place-index (ids_at l.initial.slots.spots l.places)) l.initial.slots.held;
  linked : IsLinked (nodes_of l.slots.held) l.links;
  gone : l.gone.items ≡ l.initial.gone.items ++ all_gone l.initial.slots.spots l.initial.slots.held (take l.place-index l.places);
  spots : (k d : ℕ) → l.place-index ≤ k → k < length l.places → at l.slots.spots (get_or l.places k d) ≡ at l.initial.slots.spots (get_or l.places k d);
  vacated_each : l.slots.spots ≡ vacated (among (take l.place-index (ids_at l.initial.slots.spots l.places))) l.initial.slots.spots;
  slots_room : l.slots.room ≡ l.initial.slots.room;
  links_room : l.links.room ≡ l.initial.links.room;
  room : vec_len l.gone + length l.slots.held ≤ vec_capacity l.gone;
  capacity : vec_capacity l.gone ≡ vec_capacity l.initial.gone;
}
