use Rattle.gate_core.proofs.Keeping.{step_gives}
use Rattle.gate_core.proofs.state.State.step.Goals as goal

pub returns-clause-ok : goal.returns-clause-ok
returns-clause-ok g c = step_gives _ _ _ _ c.recall_spelled.ensures c.in_ok-reply.ensures.ok
