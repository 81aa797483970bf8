use Rattle.std.proofs.Common.{◌≡◌, ◌≤◌, ℕ, List, cond, None, take}
use Rattle.std.specs.List.{list_any}
use Rattle.std.specs.Str.{bytes_eq}
use Rattle.gate_tx.specs.Coins.{point_eq}
use Rattle.gate_tx.specs.declared.OutPoint.{OutPoint}
use Rattle.indexmap.specs.IndexMap.{get, spare}
use Rattle.gate_pool.specs.Pool.{has_wtxid, has_point}
use Rattle.gate_pool.proofs.places.drop_each.Given as goal

abbrev pub invariant-loop-gone : goal.invariant-loop-gone
invariant-loop-gone g l = record {
  wtxids : (id : List ℕ) → get bytes_eq l.wtxids id ≡ cond (list_any (λ x. has_wtxid x.load id) (take l.gone-index l.left)) None (get bytes_eq l.fn.wtxids id);
  points : (point : OutPoint) → get point_eq l.spent point ≡ cond (list_any (λ x. has_point x.load point) (take l.gone-index l.left)) None (get point_eq l.fn.spent point);
  wtxid_room : spare l.fn.wtxids ≤ spare l.wtxids;
  point_room : spare l.fn.spent ≤ spare l.spent;
}
