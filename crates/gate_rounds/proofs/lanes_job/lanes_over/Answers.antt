use Rattle.gate_rounds.proofs.Telling.{over_more}
use Rattle.gate_rounds.proofs.lanes_job.lanes_over.Goals as goal

pub loop-bytes-preserved : goal.loop-bytes-preserved
loop-bytes-preserved c =
    over_more c.args.parts.now c.loop-bytes.bytes-index c.bytes-item.result c.loop-bytes.lanes.items c.push.new.self.items c.as_slice.result c.new.result c.in_ok-push.ensures.items
    c.loop-bytes-test.true c.bytes-item.is c.as_slice.ensures.value c.new.ensures.items c.loop-bytes.invariant
