-- What `gate lanes` prints of rounds that settle: replies and journals of one run a round.
use Rattle.std.specs.Prelude.{◌≡◌, ℕ, ◌++◌, Bool, true, List, [], ◌∷◌, filter, take, Some, None, Ok}
use Rattle.gate_audit.specs.Audits.{IsLegal}
use Rattle.gate_audit.specs.Journals.{AreWithin}
use Rattle.gate_core.specs.World.{World}
use Rattle.gate_journal.specs.Legal.{AreLegalRounds, events_of, state_after}
use Rattle.gate_lanes.specs.LaneReplies.{RepliesAsTheRun}
use Rattle.gate_lines.specs.Lines.{lines_of}
use Rattle.gate_split.specs.Parts.{rounds_of}
use Rattle.gate_opening.specs.Openings.{opening_part}
use Rattle.gate_opening.specs.Said.{spelled}
use Rattle.gate_rounds.specs.LaneJobs.{LanesPrinted}
use Rattle.gate_rounds.specs.PrintedJournals.{PrintedRound, entries_in, is_journal_line, journals_of, rounds_journal, rounds_text}

-- in each of these rounds the lanes have the replies of one run, over the events of the round's entries, from the state that the
-- runs of the rounds before lead to
abbrev pub ReplyAsRuns : World → List (List (List ℕ)) → List PrintedRound → Type 0
ReplyAsRuns w [] [] = Unit {0}
ReplyAsRuns w [] (round ∷ rounds) = ⊥
ReplyAsRuns w (lanes ∷ more) [] = ⊥
ReplyAsRuns w (lanes ∷ more) (round ∷ rounds) =
    RepliesAsTheRun w (events_of round.entries) lanes round.texts × ReplyAsRuns (state_after w round.entries) more rounds

-- An audit from this state finds the printed journals of the first n rounds legal, for any n and so for all of them, if they are
-- within the limits of a reader.
abbrev pub AreAudited : World → List PrintedRound → Type 0
AreAudited w rounds =
    (n : ℕ) → AreWithin (rounds_journal None (take n rounds)) → IsLegal w (rounds_journal None (take n rounds)) (entries_in (take n rounds))

-- This text is what is printed of rounds over these lanes, from this state.
--
-- For each round there is one list of events, those of its journal, each of them a line of one of its lanes: the reply lines of
-- each lane are those that the run over these events gives at the numbers of the lane's receipts, rising in the order of its lines,
-- with `refused` lines for lines that don't parse and `fault` lines for events that were not called. No event is answered in two
-- lanes. Each round's run begins where that of the round before ends.
--
-- The replies in the journals are those of the same runs. If journals are asked for, the lines that begin as a journal's do are
-- these journals, with the lines of the bases between them.
pub record PrintsRuns (w : World) (lanes : List (List (List ℕ))) (journal : Bool) (text : List ℕ) : Type 0 where
  pub rounds : List PrintedRound
  pub written : text ≡ rounds_text journal None rounds
  pub replies : ReplyAsRuns w lanes rounds
  pub legal : AreLegalRounds w (journals_of rounds)
  pub marked : journal ≡ true → filter is_journal_line (lines_of text) ≡ rounds_journal None rounds
  pub audited : AreAudited w rounds

-- what `gate lanes` writes, if all its rounds settle
abbrev pub GateLanesAreRuns : Type 0
GateLanesAreRuns =
    (text rest before after : List ℕ) (w : World) (journal : Bool)
    → spelled text ≡ Ok w → text ≡ opening_part text ++ rest → LanesPrinted journal (Some text) (Some before) (Some after) 0
    → (printed : List ℕ) × (after ≡ before ++ printed) × PrintsRuns w (rounds_of rest) journal printed
