use Rattle.std.proofs.Common.{refl, arith}
use Rattle.std.proofs.lemmas.Result.{err_from_is_err_and}
use Rattle.gate_rounds.proofs.Telling.{all_told, told_in_part, told_next, told_none}
use Rattle.gate_rounds.proofs.lanes_job.run_rounds.Goals as goal

pub loop-lanes-init : goal.loop-lanes-init
loop-lanes-init g c = told_none c.args.options.now.journal c.args.state c.args.rounds.now (g.W.Write.contents c.args.writer.now) _

pub run_one-requires : goal.run_one-requires
run_one-requires g c =
    let so = c.loop-lanes.invariant in
    let crossing = c.type_bounds in
    (crossing.send-S, (crossing.send-S-Hasher, (crossing.sync-S, (crossing.sync-T, (crossing.sync-S-Hasher, omega (arith, so.bound, c.loop-lanes-test.true, c.requires.few))))))

pub returns-in_err-start-clause-stopped : goal.returns-in_err-start-clause-stopped
returns-in_err-start-clause-stopped g c =
    let p = err_from_is_err_and c.from_residual.result c.from_residual.ensures.1 in
    let stopped = c.in_err-start.ensures.stopped in
    rw (p.1, p.2) (
      told_in_part c.args.options.now.journal c.args.state c.args.rounds.now c.loop-lanes.lanes-index c.lanes-item.result c.as_slice.result.now
          c.loop-lanes.start.state c.loop-lanes.start.behind
          (g.W.Write.contents c.args.writer.now) (g.W.Write.contents c.loop-lanes.writer) (g.W.Write.contents c.run_one.new.writer) _
          c.loop-lanes-test.true c.lanes-item.is c.as_slice.ensures.value c.loop-lanes.invariant stopped.0,
      stopped.1,
    )

pub loop-lanes-preserved : goal.loop-lanes-preserved
loop-lanes-preserved g c =
    told_next c.args.options.now.journal c.args.state c.args.rounds.now c.loop-lanes.lanes-index c.lanes-item.result c.as_slice.result.now
    c.loop-lanes.start.state c.in_ok-start.start.state c.loop-lanes.start.behind c.in_ok-start.start.behind
    (g.W.Write.contents c.args.writer.now) (g.W.Write.contents c.loop-lanes.writer) (g.W.Write.contents c.run_one.new.writer) _ _
    c.loop-lanes-test.true c.lanes-item.is c.as_slice.ensures.value c.loop-lanes.invariant
    c.in_ok-start.ensures.done c.in_ok-start.ensures.bound c.in_ok-start.ensures.sent

pub returns-clause-done : goal.returns-clause-done
returns-clause-done g c = (
  all_told c.args.options.now.journal c.args.state c.args.rounds.now c.loop-lanes.lanes-index c.loop-lanes.start.state c.loop-lanes.start.behind
      (g.W.Write.contents c.args.writer.now) (g.W.Write.contents c.loop-lanes.writer) _ c.loop-lanes-test.false c.loop-lanes.invariant,
  refl,
)

pub returns-clause-sent : goal.returns-clause-sent
returns-clause-sent g c =
    let so = c.loop-lanes.invariant in
    so.sent (omega (arith, c.requires.some, c.loop-lanes-test.false))
