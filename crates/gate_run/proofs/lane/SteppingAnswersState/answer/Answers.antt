use Rattle.std.proofs.Common.{inl, inr, refl}
use Rattle.gate_message.specs.Texts.{reply_text}
use Rattle.gate_run.proofs.Outcomes.{OnErr-always, OnOk-so}
use Rattle.gate_run.proofs.lane.SteppingAnswersState.answer.Goals as goal

-- the step was made, whatever became of its text
pub returns-in-Ok-clause-err : goal.returns-in-Ok-clause-err
returns-in-Ok-clause-err g c =
    OnErr-always c.set_answer.result _ (inr (reply_text c.in-Ok.answer, inl (c.in-Ok.answer, refl, c.in-Ok.ensures.exact, c.in-Ok.ensures.ok)))

pub returns-in-Ok-clause-ok : goal.returns-in-Ok-clause-ok
returns-in-Ok-clause-ok g c =
    OnOk-so c.set_answer.result _ _ (λ spelled. inl (c.in-Ok.answer, spelled, c.in-Ok.ensures.exact, c.in-Ok.ensures.ok)) c.set_answer.ensures
