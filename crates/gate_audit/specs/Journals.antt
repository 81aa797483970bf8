-- Journals as lines: for each entry the line of its event and the line of its reply, and between two rounds the line of a base.
use Rattle.std.specs.Prelude.{◌≡◌, ℕ, ◌+◌, ◌-◌, ◌≤◌, ◌==◌, ◌&&◌, ◌||◌, if◌then◌else◌, not, Bool, false, List, [], ◌∷◌, ◌++◌, filter, length, map, codes, Some}
use Rattle.std.specs.Fmt.{decimal}
use Rattle.std.specs.List.{All}
use Rattle.gate_lines.specs.Lines.{count_limit, line_limit, is_skipped}
use Rattle.gate_message.specs.declared.reply.Reply.{Reply}
use Rattle.gate_message.specs.Texts.{reply_text}
use Rattle.gate_core.specs.World.{World}
use Rattle.gate_events.specs.EventLines.{line_event}
use Rattle.gate_journal.specs.Legal.{AreLegalRounds, entry_limit, events_of, joined, replies_of, state_after_rounds}
use Rattle.gate_journal.specs.declared.entry.Entry.{Entry}

-- the line of an event that is spelled like this
abbrev pub event_line : List ℕ → List ℕ
event_line text = codes "> " ++ text

-- the line of a reply
abbrev pub reply_line : Reply → List ℕ
reply_line reply = codes "< " ++ reply_text reply

-- the line of a base behind this many entries
abbrev pub base_line : ℕ → List ℕ
base_line count = codes "base " ++ decimal count

-- the line has this mark and a space behind it
abbrev pub bears : ℕ → List ℕ → Bool
bears mark [] = false
bears mark (x ∷ []) = false
bears mark (x ∷ y ∷ text) = (x == mark) && (y == 32)

-- the length of a line, in which the mark of an event or a reply doesn't count
abbrev pub counted : List ℕ → ℕ
counted line = if bears 62 line || bears 60 line then length line - 2 else length line

-- these lines are as many as a reader may give, and none is too long
pub record AreWithin (lines : List (List ℕ)) : Type 0 where
  pub few : length lines ≤ count_limit
  pub short : All (λ line. counted line ≤ line_limit) lines

-- the lines that are neither empty nor comments
abbrev pub asking : List (List ℕ) → List (List ℕ)
asking lines = filter (λ line. not (is_skipped line)) lines

-- the lines of entries: for each event the line that spells it, and then the line of its reply
abbrev pub entry_lines : List (List ℕ) → List Reply → List (List ℕ)
entry_lines [] replies = []
entry_lines (text ∷ texts) [] = []
entry_lines (text ∷ texts) (reply ∷ replies) = event_line text ∷ reply_line reply ∷ entry_lines texts replies

-- ---- rounds

-- the entries of a round, and how its events are spelled
pub record Round : Type 0 where
  pub entries : List Entry
  pub texts : List (List ℕ)
  pub spelled : map line_event texts ≡ map Some (events_of entries)

abbrev pub round_lines : Round → List (List ℕ)
round_lines round = entry_lines round.texts (replies_of round.entries)

-- the lines of rounds behind this many entries: for each round those of its entries, and then the line of the base behind it
abbrev pub ended_lines : ℕ → List Round → List (List ℕ)
ended_lines count [] = []
ended_lines count (round ∷ rounds) =
    round_lines round ++ (base_line (count + length round.entries) ∷ ended_lines (count + length round.entries) rounds)

-- the rounds of a journal: those behind which a base stands, and the last one
pub record Rounds : Type 0 where
  pub ended : List Round
  pub last : Round

-- the lines of rounds: a base stands between two of them
abbrev pub rounds_lines : Rounds → List (List ℕ)
rounds_lines rounds = ended_lines 0 rounds.ended ++ round_lines rounds.last

abbrev pub entries_of : Rounds → List (List Entry)
entries_of rounds = map (λ (round : Round). round.entries) rounds.ended ++ rounds.last.entries ∷ []

-- how many entries the rounds have together
abbrev pub count_of : Rounds → ℕ
count_of rounds = length (joined (entries_of rounds))

-- the state that the rounds lead to
abbrev pub state_behind : World → Rounds → World
state_behind w rounds = state_after_rounds w (entries_of rounds)

-- no round has more entries than it may have
abbrev pub AreBounded : Rounds → Type 0
AreBounded rounds = All (λ (entries : List Entry). length entries ≤ entry_limit) (entries_of rounds)

-- The lines tell these rounds, which are legal from this state: but for empty ones and comments they are, for each entry in
-- turn, a line that spells its event and the line of its reply, and between two rounds the line of a base.
pub record IsJournal (w : World) (lines : List (List ℕ)) (rounds : Rounds) : Type 0 where
  pub told : asking lines ≡ rounds_lines rounds
  pub legal : AreLegalRounds w (entries_of rounds)
