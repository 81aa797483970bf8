use Rattle.gate_shared.proofs.Recorded.{kept, recorded}
use Rattle.gate_shared.proofs.gate.Gate.call.Goals as goal

pub returns-clause-recorded : goal.returns-clause-recorded
returns-clause-recorded g c =
    recorded g.N.Base.base _ _ c.args.pass.now _ c.args.event.now c.apply.result c.apply.ensures.is c.apply.ensures.applies

pub returns-clause-kept : goal.returns-clause-kept
returns-clause-kept g c = kept _ _ c.args.pass.now _ c.args.event.now c.apply.result c.apply.ensures.applies
