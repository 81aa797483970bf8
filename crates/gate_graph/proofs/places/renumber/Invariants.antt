use Rattle.std.proofs.Common.{◌≡◌}
use Rattle.std.specs.Str.{bytes_eq}
use Rattle.indexmap.specs.IndexMap.{get, index_map_len}
use Rattle.gate_graph.specs.Holding.{has_id}
use Rattle.gate_graph.proofs.Closing.{Moved}
use Rattle.gate_graph.proofs.places.renumber.Given as goal

abbrev pub invariant-loop-place : goal.invariant-loop-place
invariant-loop-place g l = record {
  places : Moved has_id l.slots l.place (get bytes_eq l.fn.places) (get bytes_eq l.places);
  count : index_map_len l.places ≡ index_map_len l.fn.places;
}
