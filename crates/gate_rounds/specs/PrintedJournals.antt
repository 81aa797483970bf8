-- What `gate lanes` prints of rounds that settle, and the lines in it that are a journal's.
use Rattle.std.specs.Prelude.{ℕ, ◌+◌, ◌++◌, ◌||◌, Bool, List, [], ◌∷◌, codes, length, map, take, Option, Some, None}
use Rattle.std.specs.Str.{bytes_eq}
use Rattle.gate_audit.specs.Journals.{base_line, bears}
use Rattle.gate_journal.specs.Legal.{joined}
use Rattle.gate_journal.specs.declared.Entry.{Entry}
use Rattle.gate_lines.specs.Lines.{unlines}
use Rattle.gate_rounds.specs.LaneLines.{asked_lines, count_before, journal_lines, lanes_text, settled_line}

-- a round as it is printed: what was written in each of its lanes, and the entries of its journal
pub record PrintedRound : Type 0 where
  pub texts : List (List ℕ)
  pub entries : List Entry

abbrev pub base_lines : Option ℕ → List (List ℕ)
base_lines None = []
base_lines (Some count) = base_line count ∷ []

abbrev pub behind_round : Option ℕ → PrintedRound → Option ℕ
behind_round before round = Some (count_before before + length round.entries)

-- the lines behind the lanes of a round: how many entries its journal has, and the journal if it is asked for
abbrev pub end_lines : Bool → PrintedRound → List (List ℕ)
end_lines journal round = settled_line (length round.entries) ∷ asked_lines journal round.entries

-- The text of rounds. Each round is its lanes, the line of its count, and its journal if it is asked for; each behind the first
-- begins with the line of its base, whose number is that of the entries before it.
abbrev pub rounds_text : Bool → Option ℕ → List PrintedRound → List ℕ
rounds_text journal before [] = []
rounds_text journal before (round ∷ rounds) =
    unlines (base_lines before)
    ++ (lanes_text 1 round.texts ++ (unlines (end_lines journal round) ++ rounds_text journal (behind_round before round) rounds))

-- the lines of the bases and of the journals in the text of rounds
abbrev pub rounds_journal : Option ℕ → List PrintedRound → List (List ℕ)
rounds_journal before [] = []
rounds_journal before (round ∷ rounds) = base_lines before ++ (journal_lines round.entries ++ rounds_journal (behind_round before round) rounds)

-- the line begins as a journal's lines do: with the mark of an event, with that of a reply, or with `base `
abbrev pub is_journal_line : List ℕ → Bool
is_journal_line line = bears 62 line || (bears 60 line || bytes_eq (take 5 line) (codes "base "))

-- the journals of these rounds
abbrev pub journals_of : List PrintedRound → List (List Entry)
journals_of rounds = map (λ (round : PrintedRound). round.entries) rounds

-- how many entries these rounds have
abbrev pub entries_in : List PrintedRound → ℕ
entries_in rounds = length (joined (journals_of rounds))
