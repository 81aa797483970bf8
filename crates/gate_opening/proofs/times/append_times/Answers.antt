use Rattle.std.proofs.Common.{arith}
use Rattle.gate_opening.proofs.EvenSteps.{time_fits, time-next, times_pushed}
use Rattle.gate_opening.proofs.times.append_times.Goals as goal

pub overflow_cast-time : goal.overflow_cast-time
overflow_cast-time c =
    let fits = time_fits c.args.count c.loop.counter c.args.first c.args.step c.loop-test.true c.requires in
    omega (arith, fits)

pub overflow_add-time : goal.overflow_add-time
overflow_add-time c =
    let fits = time_fits c.args.count c.loop.counter c.args.first c.args.step c.loop-test.true c.requires in
    omega (arith, fits)

pub loop-preserved : goal.loop-preserved
loop-preserved c = record {
  items = times_pushed _ _ _ c.loop.time c.loop.counter c.args.first c.args.step c.loop.invariant.items c.loop.invariant.time c.in_ok-push.ensures.items;
  time = rw c.from-time-in-loop.ensures (time-next c.loop.time c.loop.counter c.args.first c.args.step c.loop.invariant.time);
}
