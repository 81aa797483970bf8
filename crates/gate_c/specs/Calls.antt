-- How a call ends: its status, what stands in the buffer, and what the handle then holds.
use Rattle.std.specs.Prelude.{◌≡◌, ◌⊎◌, ℕ, ◌<◌, ◌≤◌, ◌++◌, ◌∷◌, List, [], length, Option, Some, None, Err, string_bytes}
use Rattle.std.specs.Option.{option_map}
use Rattle.gate_lines.specs.Lines.{line_limit, unlines}
use Rattle.gate_opening.specs.declared.OpeningFault.TheVariants as faults
use Rattle.gate_opening.specs.declared.OpeningToken.{OpeningToken}
use Rattle.gate_opening.specs.Said.{spelled}
use Rattle.gate_check.specs.Checks.{check_lines, check_status, input_spells}
use Rattle.gate_run.specs.Refusals.{opening_line}
use Rattle.gate_c.specs.declared.answer.Answer.{Answer}
use Rattle.gate_c.specs.declared.explanation.Explanation.{Explanation}
use Rattle.gate_c.specs.declared.reading.Reading.{Reading}
use Rattle.gate_c.specs.declared.session.GateSession.{GateSession}
use Rattle.gate_c.specs.declared.status.Status.TheVariants as statuses
use Rattle.gate_c.specs.Answers.{answer_lines, Answered}
use Rattle.gate_c.specs.Changes.{change_text}
use Rattle.gate_c.specs.Explanations.{IsNumbered, IsSaid}
use Rattle.gate_c.specs.Outputs.{NothingPut, OutOfMemory, TextPut}
use Rattle.gate_c.specs.Readings.{IsRead, ReadingAnswered}
use Rattle.gate_c.specs.Sessions.{AnswerKept, Counts, IsOpened, MovesKept, MovesSince, NothingSaid, OpeningKept, Rests, SaidKept, SwitchCopied}
use Rattle.gate_c.specs.Statuses.{code_of, done}

-- ---- a check

-- the lines of `gate check -`, and its status
abbrev pub CheckCalled : List ℕ → List ℕ → List ℕ → ℕ → ℕ → Type 0
CheckCalled input before after size status =
    TextPut (check_status (input_spells input)) (unlines (check_lines (input_spells input))) before after size status
    ⊎ OutOfMemory before after size status

-- ---- an answer

-- the line of the answer is put, or the buffer is too small for it, or memory ran out in its text
abbrev pub AnswerPut : Answer → List ℕ → List ℕ → ℕ → ℕ → Type 0
AnswerPut answer before after size status =
    TextPut done (unlines (answer_lines answer)) before after size status
    ⊎ NothingPut (code_of statuses.ReplyKept) before after size status

-- what is said of a line that is answered is of its own reply, to an event that met the state before it
abbrev pub Explains : GateSession → GateSession → Type 0
Explains old new = IsSaid old.tracked.world old.next_line new.answer new.explanation

-- a line within the limits is answered, and its answer is kept; or nothing has changed, and nothing is said; the opening is the
-- same after every call, and what has moved is what this line moved. Whether lines are explained decides on what is said alone
abbrev pub LineCalled : GateSession → List ℕ → GateSession → List ℕ → List ℕ → ℕ → ℕ → Type 0
LineCalled old line new before after size status = MovesSince old new × Counts old new × (
    ((length line ≤ line_limit) × Answered old.tracked.world line new.answer new.tracked.world × OpeningKept old new
    × Explains old new × AnswerPut new.answer before after size status)
    ⊎ (AnswerKept old new × NothingSaid new × OutOfMemory before after size status)
    ⊎ (AnswerKept old new × NothingSaid new × (line_limit < length line)
    × NothingPut (code_of statuses.LineTooLong) before after size status))

-- a closed handle stays closed
abbrev pub AnswerCalled : Option GateSession → List ℕ → Option GateSession → List ℕ → List ℕ → ℕ → ℕ → Type 0
AnswerCalled None line new before after size status = (new ≡ None) × NothingPut (code_of statuses.NotOpen) before after size status
AnswerCalled (Some old) line None before after size status = ⊥
AnswerCalled (Some old) line (Some new) before after size status = LineCalled old line new before after size status

-- the last answer is put once more, and nothing else changes
abbrev pub AnswerRepeated : GateSession → GateSession → List ℕ → List ℕ → ℕ → ℕ → Type 0
AnswerRepeated old new before after size status =
    AnswerKept old new × MovesKept old new × SaidKept old new × AnswerPut old.answer before after size status

abbrev pub ReplyCalled : Option GateSession → Option GateSession → List ℕ → List ℕ → ℕ → ℕ → Type 0
ReplyCalled None new before after size status = (new ≡ None) × NothingPut (code_of statuses.NotOpen) before after size status
ReplyCalled (Some old) None before after size status = ⊥
ReplyCalled (Some old) (Some new) before after size status = AnswerRepeated old new before after size status

-- ---- what a line moved

-- the lines of what the last line moved are put, or memory ran out in their text
abbrev pub ChangesPut : GateSession → List ℕ → List ℕ → ℕ → ℕ → Type 0
ChangesPut session before after size status =
    TextPut done (change_text session.tracked.before session.tracked.world.pool) before after size status
    ⊎ OutOfMemory before after size status

-- nothing changes behind the handle
abbrev pub ChangesCalled : Option GateSession → Option GateSession → List ℕ → List ℕ → ℕ → ℕ → Type 0
ChangesCalled None new before after size status = (new ≡ None) × NothingPut (code_of statuses.NotOpen) before after size status
ChangesCalled (Some old) new before after size status = (new ≡ Some old) × ChangesPut old before after size status

-- ---- what is said of a line

-- the line of an object is put, or memory ran out in it when the line was answered
abbrev pub ObjectPut : Option (List ℕ) → List ℕ → List ℕ → ℕ → ℕ → Type 0
ObjectPut None before after size status = OutOfMemory before after size status
ObjectPut (Some text) before after size status = TextPut done text before after size status

-- what is said of the last line is put, if anything is
abbrev pub SaidPut : Option Explanation → List ℕ → List ℕ → ℕ → ℕ → Type 0
SaidPut None before after size status = TextPut done [] before after size status
SaidPut (Some explanation) before after size status = ObjectPut (option_map string_bytes explanation.text) before after size status

abbrev pub ExplanationPut : GateSession → List ℕ → List ℕ → ℕ → ℕ → Type 0
ExplanationPut session before after size status = SaidPut session.explanation before after size status

-- nothing changes behind the handle
abbrev pub ExplanationCalled : Option GateSession → Option GateSession → List ℕ → List ℕ → ℕ → ℕ → Type 0
ExplanationCalled None new before after size status = (new ≡ None) × NothingPut (code_of statuses.NotOpen) before after size status
ExplanationCalled (Some old) new before after size status = (new ≡ Some old) × ExplanationPut old before after size status

-- lines are explained from this number on, or no longer; state, last answer and what has moved are as before
abbrev pub ExplainCalled : Option GateSession → ℕ → Option GateSession → ℕ → Type 0
ExplainCalled None line new status = (new ≡ None) × (status ≡ code_of statuses.NotOpen)
ExplainCalled (Some old) line None status = ⊥
ExplainCalled (Some old) line (Some new) status =
    (status ≡ done) × AnswerKept old new × MovesKept old new × IsNumbered line new.next_line × NothingSaid new

-- ---- a line that is read before it is answered

-- the line can't be read: memory ran out, or it is too long
abbrev pub Unread : List ℕ → ℕ → Type 0
Unread line status = (status ≡ code_of statuses.OutOfMemory) ⊎ ((line_limit < length line) × (status ≡ code_of statuses.LineTooLong))

-- the event is what this line asks for
abbrev pub HoldsLine : List ℕ → Option Reading → Type 0
HoldsLine line None = ⊥
HoldsLine line (Some reading) = IsRead line reading

-- the event is then what the line asks for, or is as before
abbrev pub ReadCalled : Option Reading → List ℕ → Option Reading → ℕ → Type 0
ReadCalled old line new status = ((status ≡ done) × HoldsLine line new) ⊎ ((new ≡ old) × Unread line status)

-- what a line asks for is answered, and its answer is kept; or nothing has changed, and nothing is said; the opening is the
-- same after every call, and what has moved is what this line moved
abbrev pub ReadingCalled : GateSession → Reading → GateSession → List ℕ → List ℕ → ℕ → ℕ → Type 0
ReadingCalled old reading new before after size status = MovesSince old new × Counts old new × (
    (ReadingAnswered old.tracked.world reading new.answer new.tracked.world × OpeningKept old new × Explains old new
    × AnswerPut new.answer before after size status)
    ⊎ (AnswerKept old new × NothingSaid new × OutOfMemory before after size status))

-- what a line asks for is answered by a handle that is open
abbrev pub OpenCalledBy : Option GateSession → Reading → Option GateSession → List ℕ → List ℕ → ℕ → ℕ → Type 0
OpenCalledBy None reading new before after size status = (new ≡ None) × NothingPut (code_of statuses.NotOpen) before after size status
OpenCalledBy (Some old) reading None before after size status = ⊥
OpenCalledBy (Some old) reading (Some new) before after size status = ReadingCalled old reading new before after size status

-- the event is answered, or one of the two handles is closed, and nothing has changed
abbrev pub EventCalled : Option GateSession → Option Reading → Option GateSession → List ℕ → List ℕ → ℕ → ℕ → Type 0
EventCalled old None new before after size status = (new ≡ old) × NothingPut (code_of statuses.NotOpen) before after size status
EventCalled old (Some reading) new before after size status = OpenCalledBy old reading new before after size status

-- ---- a copy

-- the second handle holds a session with the same opening, the same state and the same last answer, in which nothing has
-- moved, and which explains lines as the first one does; or memory ran out
abbrev pub CopyMade : GateSession → Option GateSession → ℕ → Type 0
CopyMade old None status = status ≡ code_of statuses.OutOfMemory
CopyMade old (Some copy) status = (status ≡ done) × AnswerKept old copy × Rests copy × SwitchCopied old copy

-- the first handle is as before; so is the second one, unless a copy is made
abbrev pub CopyCalled : Option GateSession → Option GateSession → Option GateSession → Option GateSession → ℕ → Type 0
CopyCalled old (Some held) new copy status = (new ≡ old) × (copy ≡ Some held) × (status ≡ code_of statuses.AlreadyOpen)
CopyCalled None None new copy status = (new ≡ None) × (copy ≡ None) × (status ≡ code_of statuses.NotOpen)
CopyCalled (Some old) None new copy status = (new ≡ Some old) × CopyMade old copy status

-- ---- an opening

-- the line of an opening's fault is put
abbrev pub RefusalPut : ℕ → OpeningToken → List ℕ → List ℕ → ℕ → ℕ → Type 0
RefusalPut line token before after size status =
    TextPut (code_of statuses.OpeningRefused) (opening_line line token ++ 10 ∷ []) before after size status
    ⊎ OutOfMemory before after size status

-- the opening has this first fault, whose line is put
abbrev pub FaultPut : List ℕ → List ℕ → List ℕ → ℕ → ℕ → Type 0
FaultPut opening before after size status = (line : ℕ) × (token : OpeningToken)
    × (spelled opening ≡ Err (faults.Line line token)) × RefusalPut line token before after size status

-- the opening has a fault, or memory ran out
abbrev pub Unopened : List ℕ → List ℕ → List ℕ → ℕ → ℕ → Type 0
Unopened opening before after size status = FaultPut opening before after size status ⊎ OutOfMemory before after size status

-- the handle holds the session of the opening
abbrev pub Opened : List ℕ → GateSession → List ℕ → List ℕ → ℕ → Type 0
Opened opening new before after size = IsOpened opening new × (after ≡ before) × (size ≡ 0)

abbrev pub OpenCalled : Option GateSession → List ℕ → Option GateSession → List ℕ → List ℕ → ℕ → ℕ → Type 0
OpenCalled (Some old) opening new before after size status = (new ≡ Some old) × NothingPut (code_of statuses.AlreadyOpen) before after size status
OpenCalled None opening (Some new) before after size status = (status ≡ done) × Opened opening new before after size
OpenCalled None opening None before after size status = Unopened opening before after size status
