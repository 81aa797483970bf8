use Rattle.std.proofs.Common.{◌≡◌, ◌≤◌, ◌+◌, length, vec_len}
use Rattle.std.specs.Str.{bytes_eq}
use Rattle.std.specs.Vec.{vec_capacity}
use Rattle.gate_tx.specs.Coins.{point_eq}
use Rattle.indexmap.specs.IndexMap.{get, spare}
use Rattle.gate_pool.specs.Keeping.{entries_in}
use Rattle.gate_pool.specs.Rewinding.{IsRewinding, IsStored, began}
use Rattle.gate_pool.proofs.rewinding.put_each_back.Given as goal

abbrev pub invariant-loop-nodes : goal.invariant-loop-nodes
invariant-loop-nodes g l = record {
  stored : IsStored l.nodes (get bytes_eq l.wtxids) (get point_eq l.spent);
  rewinding : IsRewinding l.nodes (spare l.wtxids) (spare l.spent) l.arrivals l.log.items l.mark;
  same : began l.nodes l.log.items l.mark ≡ began l.fn.nodes l.fn.log.items l.mark;
  few : length (entries_in l.nodes.nodes) + vec_len l.log ≤ length (entries_in l.fn.nodes.nodes) + vec_len l.fn.log;
  capacity : vec_capacity l.log ≡ vec_capacity l.fn.log;
}

abbrev pub decreases-loop-nodes : goal.decreases-loop-nodes
decreases-loop-nodes g l = vec_len l.log
