use Rattle.std.proofs.Common.{None, arith}
use Rattle.gate_tx.specs.Coins.{point_eq}
use Rattle.gate_tx.specs.declared.TxIn.{TxIn}
use Rattle.indexmap.specs.IndexMap.{get}
use Rattle.gate_pool.proofs.Points.{written_more}
use Rattle.gate_pool.proofs.places.drop_points.Goals as goal

pub loop-input-preserved : goal.loop-input-preserved
loop-input-preserved g c = record {
  points = λ point. written_more (λ (i : TxIn). point_eq i.prevout point) c.args.inputs.now c.loop-input.input-index c.input-item.result None
      (get point_eq c.args.spent.now point) (get point_eq c.loop-input.spent point) (get point_eq c.swap_remove.new.self point)
      c.loop-input-test.true c.input-item.is (c.loop-input.invariant.points point) (c.swap_remove.ensures.updates.0 point);
  room = omega (arith, c.loop-input.invariant.room, c.swap_remove.ensures.room.0);
}
