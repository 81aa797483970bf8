-- What reading the lines of a journal takes from the known bytes of a reader.
use Rattle.std.specs.Prelude.{◌≡◌, ◌≢◌, ℕ, ◌+◌, ◌<◌, ◌≤◌, Bool, true, false, List, [], ◌∷◌, ◌++◌, codes, length, Option, OnSome, Some, None, IfSome}
use Rattle.std.specs.Io.KnownBytes.{IsAtEnd}
use Rattle.std.specs.List.{All}
use Rattle.gate_message.specs.declared.event.Event.{Event}
use Rattle.gate_core.specs.Steps.{step_of}
use Rattle.gate_message.specs.Texts.{reply_text}
use Rattle.gate_core.specs.World.{World}
use Rattle.gate_lines.specs.Lines.{count_limit, line_limit, lines_of}
use Rattle.gate_audit.specs.declared.entry.Taken.{Taken}
use Rattle.gate_audit.specs.declared.entry.Taken.TheVariants as taken
use Rattle.gate_audit.specs.declared.lines.JournalLines.{JournalLines}
use Rattle.gate_audit.specs.Audits.{IsBegun, IsPast, IsWrong, Spells}
use Rattle.gate_audit.specs.declared.counts.EntryCounts.{EntryCounts}
use Rattle.gate_audit.specs.Journals.{asking, base_line, counted, reply_line}
use Rattle.gate_journal.specs.Legal.{entry_limit}

-- what is left of the input is what stands behind these lines
abbrev pub Leads : Option (List ℕ) → Option (List ℕ) → List (List ℕ) → Type 0
Leads None rest lines = Unit {0}
Leads (Some input) None lines = ⊥
Leads (Some input) (Some rest) lines = lines_of input ≡ lines ++ lines_of rest

-- if the end was seen, nothing is left
abbrev pub TellsEnd : Bool → Option (List ℕ) → Type 0
TellsEnd ended rest = ended ≡ true → IsAtEnd rest

-- if the end was seen of an input that is known, nothing is left of it
abbrev pub TellsRest : Bool → Option (List ℕ) → Option (List ℕ) → Type 0
TellsRest ended input rest = ended ≡ true → OnSome input (IsAtEnd rest)

-- the next line is past a limit, behind these lines and this many before them
abbrev pub NextIsPast : Option (List ℕ) → ℕ → List (List ℕ) → Type 0
NextIsPast input number lines = IfSome input (λ bytes.
    (line : List ℕ) × (rest : List (List ℕ)) × (lines_of bytes ≡ lines ++ (line ∷ rest)) × IsPast (number + length lines) line)

-- these lines are within the limits, behind this many others, and without empty lines and comments they are these
pub record AreTaken (number : ℕ) (lines asked : List (List ℕ)) : Type 0 where
  pub few : number + length lines ≤ count_limit
  pub short : All (λ line. counted line ≤ line_limit) lines
  pub asks : asking lines ≡ asked

-- these are all lines of the input
abbrev pub AreAll : Option (List ℕ) → List (List ℕ) → Type 0
AreAll input lines = IfSome input (λ bytes. lines_of bytes ≡ lines)

-- the next line was read, or none is left
abbrev pub LineTaken : Option (List ℕ) → Option (List ℕ) → JournalLines → JournalLines → Bool → Type 0
LineTaken input rest old new true = Leads input rest (new.lines.line ∷ []) × (counted new.lines.line ≤ line_limit)
    × (new.lines.count ≡ old.lines.count + 1) × TellsRest new.has_ended input rest
LineTaken input rest old new false = TellsEnd old.has_ended input → AreAll input []

-- what was read up to the next line that is neither empty nor a comment, or to the end
abbrev pub AskingTaken : Option (List ℕ) → Option (List ℕ) → JournalLines → JournalLines → Bool → Type 0
AskingTaken input rest old new true = (lines : List (List ℕ)) × AreTaken old.lines.count lines (new.lines.line ∷ [])
    × Leads input rest lines × (new.lines.count ≡ old.lines.count + length lines) × TellsRest new.has_ended input rest
AskingTaken input rest old new false = (lines : List (List ℕ)) × AreTaken old.lines.count lines [] × (TellsEnd old.has_ended input → AreAll input lines)

-- a line is past a limit, and all lines before it are empty or comments
abbrev pub AskingIsPast : Option (List ℕ) → ℕ → Type 0
AskingIsPast input number = (lines : List (List ℕ)) × AreTaken number lines [] × NextIsPast input number lines

-- the state's answer to the event that a line spells
abbrev pub Replied : World → List ℕ → World → Option (List ℕ) → Type 0
Replied w line w' None = (event : Event) → Spells line event → ⊥
Replied w line w' (Some reply) = (event : Event) × Spells line event × (reply ≡ reply_text (step_of w event).0) × (w' ≡ (step_of w event).1)

-- in the place of the reply's line there is another, or none
abbrev pub IsNoReply : List (List ℕ) → List (List ℕ) → List ℕ → Type 0
IsNoReply [] more reply = more ≡ []
IsNoReply (line ∷ []) more reply = line ≢ codes "< " ++ reply
IsNoReply (line ∷ other ∷ lines) more reply = ⊥

abbrev pub LacksReply : Option (List ℕ) → List (List ℕ) → List (List ℕ) → List ℕ → Type 0
LacksReply input lines asked reply = IfSome input (λ bytes. (more : List (List ℕ)) × (lines_of bytes ≡ lines ++ more) × IsNoReply asked more reply)

-- these lines of the input, which are these without empty lines and comments, are a wrong entry behind the counted entries
abbrev pub IsWrongIn : EntryCounts → World → Option (List ℕ) → List (List ℕ) → List (List ℕ) → Type 0
IsWrongIn counts w input lines asked = IfSome input (λ bytes. (more : List (List ℕ)) × (lines_of bytes ≡ lines ++ more)
    × IsWrong counts.all counts.in_round w asked more)

-- the line of this reply follows, or another line, or none
abbrev pub ReplyTaken : Option (List ℕ) → Option (List ℕ) → JournalLines → JournalLines → List ℕ → Bool → Type 0
ReplyTaken input rest old new reply true = (lines : List (List ℕ)) × AreTaken old.lines.count lines ((codes "< " ++ reply) ∷ [])
    × Leads input rest lines × (new.lines.count ≡ old.lines.count + length lines) × TellsRest new.has_ended input rest
ReplyTaken input rest old new reply false = (lines : List (List ℕ)) × (asked : List (List ℕ)) × AreTaken old.lines.count lines asked
    × (TellsEnd old.has_ended input → LacksReply input lines asked reply)

-- what the lines up to the end of an entry, or up to a base, turned out to be
abbrev pub EntryTaken : Option (List ℕ) → Option (List ℕ) → JournalLines → JournalLines → World → World → EntryCounts → Taken → Type 0
EntryTaken input rest old new w w' counts taken.Legal = (lines : List (List ℕ)) × (first : List ℕ) × (event : Event) × (counts.in_round < entry_limit)
    × Spells first event × AreTaken old.lines.count lines (first ∷ reply_line (step_of w event).0 ∷ [])
    × Leads input rest lines × (new.lines.count ≡ old.lines.count + length lines) × TellsRest new.has_ended input rest × (w' ≡ (step_of w event).1)
EntryTaken input rest old new w w' counts taken.Base = (lines : List (List ℕ)) × AreTaken old.lines.count lines (base_line counts.all ∷ [])
    × Leads input rest lines × (new.lines.count ≡ old.lines.count + length lines) × TellsRest new.has_ended input rest × (w' ≡ w)
EntryTaken input rest old new w w' counts taken.Wrong = (lines : List (List ℕ)) × (asked : List (List ℕ)) × AreTaken old.lines.count lines asked
    × (TellsEnd old.has_ended input → IsWrongIn counts w input lines asked)
EntryTaken input rest old new w w' counts taken.End = (lines : List (List ℕ)) × AreTaken old.lines.count lines [] × (TellsEnd old.has_ended input → AreAll input lines)

-- a line is past a limit, and the entry before it is not wrong
abbrev pub EntryIsPast : Option (List ℕ) → ℕ → ℕ → Type 0
EntryIsPast input number size = (lines : List (List ℕ)) × (asked : List (List ℕ)) × AreTaken number lines asked × IsBegun size asked × NextIsPast input number lines
