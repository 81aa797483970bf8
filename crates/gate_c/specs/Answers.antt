-- The reply lines of an answer, and which answer a line may have.
use Rattle.std.specs.Prelude.{◌≡◌, ℕ, List, [], ◌∷◌, Option, Some, None}
use Rattle.gate_core.specs.Good.{StepGives}
use Rattle.gate_core.specs.Steps.{step_of}
use Rattle.gate_core.specs.World.{World}
use Rattle.gate_lane.specs.Lanes.{LineAnswered}
use Rattle.gate_lines.specs.Refused.{bad_line}
use Rattle.gate_message.specs.Texts.{reply_text}
use Rattle.gate_message.specs.declared.event.Event.{Event}
use Rattle.gate_message.specs.declared.reply.Reply.{Reply}
use Rattle.gate_c.specs.declared.answer.Answer.{Answer}
use Rattle.gate_c.specs.declared.answer.Answer.TheVariants as answers

abbrev pub answer_lines : Answer → List (List ℕ)
answer_lines answers.Nothing = []
answer_lines answers.BadLine = bad_line ∷ []
answer_lines (answers.Reply reply) = reply_text reply ∷ []

-- the reply line to an event is that of the written step, which keeps a good state good if transactions are told apart by
-- their ids
abbrev pub Steps : World → Event → List ℕ → World → Type 0
Steps old event line new =
    (reply : Reply) × (line ≡ reply_text reply) × ((reply, new) ≡ step_of old event) × StepGives old event reply new

-- a line within the limits has this answer, and the state after it is this one
abbrev pub Answered : World → List ℕ → Answer → World → Type 0
Answered old line answer new = LineAnswered Steps old line (answer_lines answer) new

-- what a line spells has this answer: the reply of the written step, or `refused` for a line without a form
abbrev pub EventAnswered : World → Option Event → Answer → World → Type 0
EventAnswered old None answer new = (answer ≡ answers.BadLine) × (new ≡ old)
EventAnswered old (Some event) answer new =
    (reply : Reply) × (answer ≡ answers.Reply reply) × ((reply, new) ≡ step_of old event) × StepGives old event reply new
