-- What the answers of audits say.
use Rattle.std.specs.Prelude.{◌≡◌, ℕ, ◌≤◌, if◌then◌else◌, List, [], ◌∷◌, ◌++◌, drop, length, map, Option, Some, None}
use Rattle.std.specs.Option.{option_to_list}
use Rattle.gate_message.specs.declared.event.Event.{Event}
use Rattle.gate_core.specs.Runs.{run_of}
use Rattle.gate_message.specs.Texts.{reply_text}
use Rattle.gate_core.specs.World.{World}
use Rattle.gate_events.specs.EventLines.{line_event}
use Rattle.gate_audit.specs.declared.answer.Audit.{Audit}
use Rattle.gate_audit.specs.Audits.{Audited, IsLegal}
use Rattle.gate_audit.specs.Journals.{AreBounded, AreWithin, Rounds, bears, count_of, entries_of, entry_lines, rounds_lines}
use Rattle.gate_journal.specs.Legal.{AreLegalRounds, entry_limit}

-- any lines have one answer, and no two
abbrev pub AuditsAreExact : Type 0
AuditsAreExact =
    (w : World) (lines : List (List ℕ)) → (answer : Option Audit) × Audited w lines answer × ((other : Option Audit) → Audited w lines other → other ≡ answer)

-- the event that a line spells behind the mark of an event
abbrev pub marked_event : List ℕ → Option Event
marked_event line = if bears 62 line then line_event (drop 2 line) else None

-- the events that the lines with the mark of an event spell
abbrev pub events_among : List (List ℕ) → List Event
events_among [] = []
events_among (line ∷ lines) = option_to_list (marked_event line) ++ events_among lines

-- the replies that the lines with the mark of a reply say
abbrev pub replies_among : List (List ℕ) → List (List ℕ)
replies_among [] = []
replies_among (line ∷ lines) = if bears 60 line then drop 2 line ∷ replies_among lines else replies_among lines

-- if the lines are a legal journal of this many entries, they spell this many events, and say the replies of the run over them
abbrev pub LegalJournalsAreRuns : Type 0
LegalJournalsAreRuns =
    (w : World) (lines : List (List ℕ)) (count : ℕ) → IsLegal w lines count
    → (count ≡ length (events_among lines)) × (replies_among lines ≡ map reply_text (run_of w (events_among lines)).0)

-- the journal that a run makes, by whatever spelling of its events, is legal, if it has at most as many entries as a round may
-- have and its lines are within the limits
abbrev pub RunsHaveLegalJournals : Type 0
RunsHaveLegalJournals =
    (w : World) (events : List Event) (texts : List (List ℕ)) → map line_event texts ≡ map Some events → length events ≤ entry_limit
    → AreWithin (entry_lines texts (run_of w events).0) → IsLegal w (entry_lines texts (run_of w events).0) (length events)

-- rounds that are legal, by whatever spelling of their events, have legal journals, if none has too many entries and their
-- lines are within the limits
abbrev pub RoundsHaveLegalJournals : Type 0
RoundsHaveLegalJournals =
    (w : World) (rounds : Rounds) → AreLegalRounds w (entries_of rounds) → AreBounded rounds → AreWithin (rounds_lines rounds)
    → IsLegal w (rounds_lines rounds) (count_of rounds)
