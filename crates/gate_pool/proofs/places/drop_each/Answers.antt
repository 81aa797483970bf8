use Rattle.std.proofs.Common.{None, arith}
use Rattle.std.specs.Str.{bytes_eq}
use Rattle.gate_tx.specs.Coins.{point_eq}
use Rattle.indexmap.specs.IndexMap.{get}
use Rattle.gate_graph.specs.declared.held.Gone.{Gone}
use Rattle.gate_pool.specs.Pool.{Admitted, has_wtxid, has_point}
use Rattle.gate_pool.proofs.Points.{written_more}
use Rattle.gate_pool.proofs.places.drop_each.Goals as goal

pub loop-gone-preserved : goal.loop-gone-preserved
loop-gone-preserved g c = record {
  wtxids = λ id. written_more (λ (x : Gone Admitted). has_wtxid x.load id) c.args.left.now c.loop-gone.gone-index c.gone-item.result None
      (get bytes_eq c.args.wtxids.now id) (get bytes_eq c.loop-gone.wtxids id) (get bytes_eq c.drop_entry.new.wtxids id)
      c.loop-gone-test.true c.gone-item.is (c.loop-gone.invariant.wtxids id) (c.drop_entry.ensures.wtxids id);
  points = λ point. written_more (λ (x : Gone Admitted). has_point x.load point) c.args.left.now c.loop-gone.gone-index c.gone-item.result None
      (get point_eq c.args.spent.now point) (get point_eq c.loop-gone.spent point) (get point_eq c.drop_entry.new.spent point)
      c.loop-gone-test.true c.gone-item.is (c.loop-gone.invariant.points point) (c.drop_entry.ensures.points point);
  wtxid_room = omega (arith, c.loop-gone.invariant.wtxid_room, c.drop_entry.ensures.wtxid_room);
  point_room = omega (arith, c.loop-gone.invariant.point_room, c.drop_entry.ensures.point_room);
}
