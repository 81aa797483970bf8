-- What a line asks for before it meets a state, and which answer that may have.
use Rattle.std.specs.Prelude.{◌≡◌, ℕ, ◌≤◌, List, length, Option, Some, None, true, false}
use Rattle.gate_core.specs.World.{World}
use Rattle.gate_events.specs.EventLines.{line_event}
use Rattle.gate_lines.specs.Lines.{is_skipped, line_limit}
use Rattle.gate_c.specs.declared.answer.Answer.{Answer}
use Rattle.gate_c.specs.declared.answer.Answer.TheVariants as answers
use Rattle.gate_c.specs.declared.reading.Reading.{Reading}
use Rattle.gate_c.specs.declared.reading.Reading.TheVariants as readings
use Rattle.gate_c.specs.Answers.{EventAnswered}

-- the line asks for this
abbrev pub Reads : List ℕ → Reading → Type 0
Reads line readings.Nothing = is_skipped line ≡ true
Reads line readings.BadLine = (is_skipped line ≡ false) × (line_event line ≡ None)
Reads line (readings.Event event) = (is_skipped line ≡ false) × (line_event line ≡ Some event)

-- the line is within the limits, and asks for this
abbrev pub IsRead : List ℕ → Reading → Type 0
IsRead line reading = (length line ≤ line_limit) × Reads line reading

-- what a line asks for has this answer: none, `refused` for a line without a form, or the reply of the written step
abbrev pub ReadingAnswered : World → Reading → Answer → World → Type 0
ReadingAnswered old readings.Nothing answer new = (answer ≡ answers.Nothing) × (new ≡ old)
ReadingAnswered old readings.BadLine answer new = EventAnswered old None answer new
ReadingAnswered old (readings.Event event) answer new = EventAnswered old (Some event) answer new
