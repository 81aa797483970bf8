-- What is said of a line, and by which number.
use Rattle.std.specs.Prelude.{◌≡◌, ◌≢◌, ℕ, ◌+◌, ◌-◌, ◌^◌, min, Option, Some, None}
use Rattle.gate_core.specs.World.{World}
use Rattle.gate_message.specs.declared.reply.Reply.{Reply}
use Rattle.gate_c.specs.declared.answer.Answer.{Answer}
use Rattle.gate_c.specs.declared.answer.Answer.TheVariants as answers
use Rattle.gate_c.specs.declared.explanation.Explanation.{Explanation}

-- lines are explained from this number on, or not, if it is 0
abbrev pub IsNumbered : ℕ → Option ℕ → Type 0
IsNumbered line next = (line ≡ 0 → next ≡ None) × (line ≢ 0 → next ≡ Some line)

-- the number of the line behind one, if lines are explained: the greatest one stays
abbrev pub following : Option ℕ → Option ℕ
following None = None
following (Some line) = Some (min (line + 1) (2 ^ 64 - 1))

-- what is said is of this reply, to an event that met this state
abbrev pub IsOf : World → Reply → Explanation → Type 0
IsOf old reply explanation = (explanation.before.value ≡ old) × (explanation.reply.value ≡ reply)

-- something is said of a reply, and nothing of another answer
abbrev pub IsSaidOf : World → Answer → Option Explanation → Type 0
IsSaidOf old answers.Nothing said = said ≡ None
IsSaidOf old answers.BadLine said = said ≡ None
IsSaidOf old (answers.Reply reply) None = ⊥
IsSaidOf old (answers.Reply reply) (Some explanation) = IsOf old reply explanation

-- what is said of an answer, on a line of this number; nothing if lines aren't explained
abbrev pub IsSaid : World → Option ℕ → Answer → Option Explanation → Type 0
IsSaid old None answer said = said ≡ None
IsSaid old (Some line) answer said = IsSaidOf old answer said
