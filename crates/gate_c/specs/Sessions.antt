-- The session of an opening, and what a call leaves of a session.
use Rattle.std.specs.Prelude.{◌≡◌, ℕ, List, None, Ok}
use Rattle.gate_core.specs.Good.{IsGoodWorld}
use Rattle.gate_opening.specs.Said.{spelled}
use Rattle.gate_c.specs.declared.answer.Answer.TheVariants as answers
use Rattle.gate_c.specs.declared.session.GateSession.{GateSession}
use Rattle.gate_c.specs.Explanations.{following}

-- nothing has moved
abbrev pub Rests : GateSession → Type 0
Rests session = session.tracked.before ≡ session.tracked.world.pool

-- what has moved in the second session is what moved since the first
abbrev pub MovesSince : GateSession → GateSession → Type 0
MovesSince old new = new.tracked.before ≡ old.tracked.world.pool

-- what has moved is as before
abbrev pub MovesKept : GateSession → GateSession → Type 0
MovesKept old new = new.tracked.before ≡ old.tracked.before

-- nothing is said of the last line
abbrev pub NothingSaid : GateSession → Type 0
NothingSaid session = session.explanation ≡ None

-- a line has passed: if lines are explained, the next one has the next number
abbrev pub Counts : GateSession → GateSession → Type 0
Counts old new = new.next_line ≡ following old.next_line

-- what is said is as before, and so is the number of the next line
abbrev pub SaidKept : GateSession → GateSession → Type 0
SaidKept old new = (new.next_line ≡ old.next_line) × (new.explanation ≡ old.explanation)

-- the second session explains lines as the first one does, by the same numbers; nothing is said in it
abbrev pub SwitchCopied : GateSession → GateSession → Type 0
SwitchCopied old copy = (copy.next_line ≡ old.next_line) × NothingSaid copy

-- the session of the state that an opening spells, which is a good one; no line is answered yet, nothing has moved, and lines
-- aren't explained
abbrev pub IsOpened : List ℕ → GateSession → Type 0
IsOpened opening session =
    (spelled opening ≡ Ok session.opened.value) × (session.tracked.world ≡ session.opened.value)
    × IsGoodWorld session.tracked.world × (session.answer ≡ answers.Nothing) × Rests session
    × (session.next_line ≡ None) × NothingSaid session

-- the state that the opening gave is as before
abbrev pub OpeningKept : GateSession → GateSession → Type 0
OpeningKept old new = new.opened.value ≡ old.opened.value

-- nothing of what the session knows has changed: its opening, its state and its last answer
abbrev pub AnswerKept : GateSession → GateSession → Type 0
AnswerKept old new = OpeningKept old new × (new.tracked.world ≡ old.tracked.world) × (new.answer ≡ old.answer)
