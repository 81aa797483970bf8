use Rattle.std.proofs.Common.{subst}
use Rattle.gate_core.specs.Good.{StepGives}
use Rattle.gate_core.specs.Planning.{world_of}
use Rattle.gate_core.specs.Spans.{Span}
use Rattle.gate_core.proofs.Keeping.{step_gives}
use Rattle.gate_core.proofs.tracked.Tracked.step.Goals as goal

pub returns-in-Ok-clause-ok : goal.returns-in-Ok-clause-ok
returns-in-Ok-clause-ok g c =
    subst (λ (s : Span). StepGives s.world c.args.event.now c.in-Ok.reply (world_of c.apply.new.self)) c.self.view_is
    (step_gives _ _ _ _ c.recall_spelled.ensures c.in-Ok.ensures.ok)
