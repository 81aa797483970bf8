use Rattle.std.proofs.Common.{subst}
use Rattle.gate_core.specs.Good.{StepGives}
use Rattle.gate_core.specs.Planning.{world_of}
use Rattle.gate_core.proofs.Keeping.{step_gives}
use Rattle.gate_core.proofs.state.State.step_recorded.Goals as goal

pub returns-clause-ok : goal.returns-clause-ok
returns-clause-ok g c =
    subst (λ w. StepGives w c.args.event.now c.in_ok-replies.replies.reply (world_of c.record.new.self)) c.self.view_is
    (step_gives _ _ _ _ c.recall_spelled.ensures c.in_ok-replies.ensures.ok)
