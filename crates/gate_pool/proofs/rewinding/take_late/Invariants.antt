use Rattle.std.proofs.Common.{◌≡◌, ◌≤◌, ◌<◌, ℕ, None, length}
use Rattle.std.specs.Prelude.{Contains}
use Rattle.std.specs.Str.{bytes_eq}
use Rattle.gate_tx.specs.Coins.{point_eq}
use Rattle.indexmap.specs.IndexMap.{get, spare}
use Rattle.gate_graph.specs.Slots.{at}
use Rattle.gate_pool.specs.Keeping.{entries_in}
use Rattle.gate_pool.specs.Pool.{Admitted}
use Rattle.gate_pool.specs.Rewinding.{IsStored, KeepsLogs}
use Rattle.gate_pool.proofs.rewinding.take_late.Given as goal

abbrev pub invariant-loop-place : goal.invariant-loop-place
invariant-loop-place g l = record {
  stored : IsStored l.nodes (get bytes_eq l.wtxids) (get point_eq l.spent);
  empty : (p : ℕ) → l.mark ≤ p → p < l.place → at l.nodes.places p ≡ None;
  len : length l.nodes.places ≡ length l.fn.nodes.places;
  logs : KeepsLogs l.fn.nodes l.nodes l.mark;
  fewer : (e : Admitted) → Contains (entries_in l.nodes.nodes) e → Contains (entries_in l.fn.nodes.nodes) e;
  count : length (entries_in l.nodes.nodes) ≤ length (entries_in l.fn.nodes.nodes);
  room : l.nodes.room ≡ l.fn.nodes.room;
  names : l.nodes.names ≡ l.fn.nodes.names;
  wtxid_room : spare l.fn.wtxids ≤ spare l.wtxids;
  point_room : spare l.fn.spent ≤ spare l.spent;
}
