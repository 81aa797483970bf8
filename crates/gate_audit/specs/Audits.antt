-- What an audit finds in the lines of a journal.
use Rattle.std.specs.Prelude.{◌≡◌, ◌≢◌, ℕ, ◌+◌, ◌<◌, List, [], ◌∷◌, ◌++◌, length, ◌⊎◌, Option, Some, None}
use Rattle.gate_lines.specs.Lines.{count_limit, line_limit}
use Rattle.gate_message.specs.declared.event.Event.{Event}
use Rattle.gate_core.specs.Steps.{step_of}
use Rattle.gate_core.specs.World.{World}
use Rattle.gate_events.specs.EventLines.{line_event}
use Rattle.gate_audit.specs.declared.answer.Audit.{Audit}
use Rattle.gate_audit.specs.declared.answer.Audit.TheVariants.{Legal, Illegal}
use Rattle.gate_audit.specs.Journals.{AreBounded, AreWithin, IsJournal, Rounds, asking, base_line, count_of, counted, event_line, reply_line, state_behind}
use Rattle.gate_journal.specs.Legal.{entry_limit}

-- all of the lines are a journal of this many entries, whose rounds are legal from this state
pub record IsLegal (w : World) (lines : List (List ℕ)) (count : ℕ) : Type 0 where
  pub rounds : Rounds
  pub journal : IsJournal w lines rounds
  pub number : count ≡ count_of rounds
  pub bounded : AreBounded rounds
  pub within : AreWithin lines

-- ---- an entry that is wrong

-- the line spells this event
abbrev pub Spells : List ℕ → Event → Type 0
Spells line event = (text : List ℕ) × (line ≡ event_line text) × (line_event text ≡ Some event)

-- The lines of an entry are wrong, behind `count` entries, of which `size` are of its round, and in this state: the first line
-- is not that of the base, and the entry is one too many of its round, or that line spells no event, or the input ends behind it;
-- or the second line is not that of the event's reply.
abbrev pub IsWrong : ℕ → ℕ → World → List (List ℕ) → List (List ℕ) → Type 0
IsWrong count size w [] rest = ⊥
IsWrong count size w (first ∷ []) rest = (first ≢ base_line count)
    × ((size ≡ entry_limit) ⊎ (((event : Event) → Spells first event → ⊥) ⊎ (rest ≡ [])))
IsWrong count size w (first ∷ second ∷ []) rest = (event : Event) × Spells first event × (second ≢ reply_line (step_of w event).0)
IsWrong count size w (first ∷ second ∷ third ∷ lines) rest = ⊥

-- what was read: a journal of these rounds, and then lines of the next entry of the last round
pub record IsFront (w : World) (before entry : List (List ℕ)) (rounds : Rounds) : Type 0 where
  pub journal : IsJournal w before rounds
  pub bounded : AreBounded rounds
  pub within : AreWithin (before ++ entry)

-- the entry of this number, from 1, is wrong, and the entries before it are a journal
pub record FailsFirst (w : World) (lines : List (List ℕ)) (number : ℕ) : Type 0 where
  pub before : List (List ℕ)
  pub entry : List (List ℕ)
  pub rest : List (List ℕ)
  pub rounds : Rounds
  pub parted : lines ≡ (before ++ entry) ++ rest
  pub front : IsFront w before entry rounds
  pub wrong : IsWrong (count_of rounds) (length rounds.last.entries) (state_behind w rounds) (asking entry) rest
  pub place : number ≡ count_of rounds + 1

-- ---- a line past a limit

-- the entry of which these lines were read, behind this many others of its round, is not wrong so far
abbrev pub IsBegun : ℕ → List (List ℕ) → Type 0
IsBegun size [] = Unit {0}
IsBegun size (first ∷ []) = (size < entry_limit) × ((event : Event) × Spells first event)
IsBegun size (first ∷ second ∷ lines) = ⊥

-- the line behind this many others is one too many, or too long
abbrev pub IsPast : ℕ → List ℕ → Type 0
IsPast number line = (number ≡ count_limit) ⊎ (line_limit < counted line)

-- a line is past a limit, and no entry before it is wrong
pub record PassesLimit (w : World) (lines : List (List ℕ)) : Type 0 where
  pub before : List (List ℕ)
  pub entry : List (List ℕ)
  pub line : List ℕ
  pub rest : List (List ℕ)
  pub rounds : Rounds
  pub parted : lines ≡ (before ++ entry) ++ (line ∷ rest)
  pub front : IsFront w before entry rounds
  pub begun : IsBegun (length rounds.last.entries) (asking entry)
  pub past : IsPast (length (before ++ entry)) line

-- ---- what is found

-- the answer of an audit, or None if a line is past a limit
abbrev pub Audited : World → List (List ℕ) → Option Audit → Type 0
Audited w lines (Some (Legal count)) = IsLegal w lines count
Audited w lines (Some (Illegal number)) = FailsFirst w lines number
Audited w lines None = PassesLimit w lines
