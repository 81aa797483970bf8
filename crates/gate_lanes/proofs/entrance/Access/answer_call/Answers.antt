use Rattle.gate_lanes.proofs.Calls.{call_lost, call_told}
use Rattle.gate_lanes.proofs.entrance.Access.answer_call.Goals as goal

pub returns-clause-ok : goal.returns-clause-ok
returns-clause-ok g c =
    call_told g.N.Base.base c.args.pass.now c.call_prepared-made.new.pass c.args.event.now c.call_prepared-made.result _ c.set_made-told.result c.call_prepared-made.ensures.called c.call_prepared-made.ensures.grows c.call_prepared-made.ensures.stand c.set_made-told.ensures

pub returns-clause-err : goal.returns-clause-err
returns-clause-err g c =
    call_lost g.N.Base.base c.args.pass.now c.call_prepared-made.new.pass c.args.event.now c.call_prepared-made.result c.set_made-told.result c.call_prepared-made.ensures.called c.call_prepared-made.ensures.grows c.call_prepared-made.ensures.stand
