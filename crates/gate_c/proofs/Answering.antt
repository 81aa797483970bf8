-- What answers a line.
use Rattle.std.proofs.Common.{◌≡◌, ℕ, List, [], ◌∷◌, Bool, false, Option, Some, None, MatchBool, inl, subst, sym, refl, ◌∙◌}
use Rattle.gate_core.specs.World.{World}
use Rattle.gate_events.specs.EventLines.{line_event}
use Rattle.gate_lane.specs.Lanes.{LineAnswered}
use Rattle.gate_lane.specs.Lanes as lane
use Rattle.gate_lines.specs.Lines.{is_skipped}
use Rattle.gate_lines.specs.Refused.{bad_line}
use Rattle.gate_message.specs.Texts.{reply_text}
use Rattle.gate_message.specs.declared.event.Event.{Event}
use Rattle.gate_c.specs.declared.answer.Answer.{Answer}
use Rattle.gate_c.specs.declared.reading.Reading.{Reading}
use Rattle.gate_c.specs.declared.reading.Reading.TheVariants as readings
use Rattle.gate_c.specs.Answers.{Answered, EventAnswered, Steps}
use Rattle.gate_c.specs.declared.session.GateSession.{GateSession}
use Rattle.gate_c.specs.declared.explanation.Explanation.{Explanation}
use Rattle.gate_c.specs.Calls.{AnswerPut, AnswerRepeated, LineCalled}
use Rattle.gate_c.specs.Explanations.{IsSaid}
use Rattle.gate_c.specs.Readings.{IsRead, ReadingAnswered, Reads}
use Rattle.gate_c.specs.Sessions.{Counts, MovesSince, OpeningKept}

one_line : (old new : World) (line reply : List ℕ) (event : Option Event) → is_skipped line ≡ false → line_event line ≡ event
    → lane.EventAnswered Steps old event reply new → LineAnswered Steps old line (reply ∷ []) new
one_line old new line reply event asks is answered =
    subst (λ (b : Bool). MatchBool b ⊥ (lane.EventAnswered Steps old (line_event line) reply new)) (sym asks)
    (subst (λ (o : Option Event). lane.EventAnswered Steps old o reply new) (sym is) answered)

-- what answers the event that a line spells answers the line
line_answered : (old new : World) (line : List ℕ) (event : Option Event) (answer : Answer) → is_skipped line ≡ false → line_event line ≡ event
    → EventAnswered old event answer new → Answered old line answer new
line_answered old new line None answer asks is answered =
    subst (λ (a : Answer). Answered old line a new) (sym answered.0) (one_line old new line bad_line None asks is (refl, answered.1))
line_answered old new line (Some event) answer asks is answered =
    subst (λ (a : Answer). Answered old line a new) (sym answered.1)
    (one_line old new line (reply_text answered.0) (Some event) asks is (answered.0, refl, answered.2, answered.3))

-- what answers what a line asks for answers the line
pub reading_answered : (old new : World) (line : List ℕ) (reading : Reading) (answer : Answer) → Reads line reading
    → ReadingAnswered old reading answer new → Answered old line answer new
reading_answered old new line readings.Nothing answer skips answered = subst (λ (a : Answer). Answered old line a new) (sym answered.0) (skips, answered.1)
reading_answered old new line readings.BadLine answer reads answered = line_answered old new line None answer reads.0 reads.1 answered
reading_answered old new line (readings.Event event) answer reads answered = line_answered old new line (Some event) answer reads.0 reads.1 answered

-- what is said is said of what equals it, too
said_again : (old : World) (line : Option ℕ) (answer same : Answer) (said again : Option Explanation) → same ≡ answer → again ≡ said
    → IsSaid old line answer said → IsSaid old line same again
said_again old line answer same said again is unchanged told =
    subst (λ (a : Answer). IsSaid old line a again) (sym is) (subst (λ (e : Option Explanation). IsSaid old line answer e) (sym unchanged) told)

-- an answer to what a line asks for, which is then put, is one to the line
pub line_called : (old mid new : GateSession) (line : List ℕ) (reading : Reading) (before after : List ℕ) (size status : ℕ) → IsRead line reading
    → ReadingAnswered old.tracked.world reading mid.answer mid.tracked.world → OpeningKept old mid → MovesSince old mid → Counts old mid
    → IsSaid old.tracked.world old.next_line mid.answer mid.explanation
    → AnswerRepeated mid new before after size status → LineCalled old line new before after size status
line_called old mid new line reading before after size status read answered kept moves counted said repeated =
    let state : new.tracked.world ≡ mid.tracked.world = repeated.0.1 in
    let answer : new.answer ≡ mid.answer = repeated.0.2 in
    let there : Answered old.tracked.world line mid.answer mid.tracked.world =
    reading_answered old.tracked.world mid.tracked.world line reading mid.answer read.1 answered in (
      repeated.1 ∙ moves,
      repeated.2.0 ∙ counted,
      inl (
        read.0,
        subst (λ (a : Answer). Answered old.tracked.world line a new.tracked.world) (sym answer)
            (subst (λ (w : World). Answered old.tracked.world line mid.answer w) (sym state) there),
        repeated.0.0 ∙ kept,
        said_again old.tracked.world old.next_line mid.answer new.answer mid.explanation new.explanation answer repeated.2.1 said,
        subst (λ (a : Answer). AnswerPut a before after size status) (sym answer) repeated.3,
      ),
    )
