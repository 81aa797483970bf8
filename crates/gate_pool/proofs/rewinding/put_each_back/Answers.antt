use Rattle.std.proofs.Common.{◌∙◌, arith}
use Rattle.gate_pool.proofs.rewinding.put_each_back.Goals as goal

pub loop-nodes-preserved : goal.loop-nodes-preserved
loop-nodes-preserved g c =
    let step = c.put_last_back.ensures in
    record {
      stored = step.stored;
      rewinding = step.rewinding;
      same = step.began ∙ c.loop-nodes.invariant.same;
      few = omega (arith, step.few, step.shorter, c.loop-nodes.invariant.few);
      capacity = step.capacity ∙ c.loop-nodes.invariant.capacity;
    }
