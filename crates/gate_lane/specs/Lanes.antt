-- What a lane may write for the lines of its input, and how the value that answers them changes.
use Rattle.std.specs.Prelude.{◌≡◌, ℕ, ◌+◌, ◌≤◌, nat_lt, nat_le, true, List, [], ◌∷◌, ◌++◌, length, Option, Some, None, IfSome, MatchBool, Result, Ok, Err}
use Rattle.std.specs.Io.{StartsWith}
use Rattle.std.specs.Io.KnownBytes.{Appends, Consumes}
use Rattle.gate_message.specs.declared.event.Event.{Event}
use Rattle.gate_lines.specs.declared.fault.LaneFault.{LaneFault}
use Rattle.gate_lines.specs.declared.fault.LaneFault.TheVariants as faults
use Rattle.gate_lines.specs.Lines.{line_limit, count_limit, LacksNewline, EachLacksNewline, lines_of, unlines, is_skipped, FirstLines}
use Rattle.gate_lines.specs.Refused.{bad_line, line_too_long, too_many_lines}
use Rattle.gate_events.specs.EventLines.{line_event}

-- the bytes of a reader or of a writer, if these are known
abbrev pub Known : Type 0
Known = Option (List ℕ)

-- ---- the reply to a line

-- which reply lines an event may have, from a value to a value
abbrev pub Answering : Type 0 → Type 1
Answering V = V → Event → List ℕ → V → Type 0

-- the one reply line to an event, or to a line without a form
abbrev pub EventAnswered : {V : Type 0} → Answering V → V → Option Event → List ℕ → V → Type 0
EventAnswered Answers old None reply new = (reply ≡ bad_line) × (new ≡ old)
EventAnswered Answers old (Some event) reply new = Answers old event reply new

-- the reply lines to one line within the limits: none to a line that is skipped
abbrev pub LineAnswered : {V : Type 0} → Answering V → V → List ℕ → List (List ℕ) → V → Type 0
LineAnswered Answers old line [] new = (is_skipped line ≡ true) × (new ≡ old)
LineAnswered Answers old line (reply ∷ []) new = MatchBool (is_skipped line) ⊥ (EventAnswered Answers old (line_event line) reply new)
LineAnswered Answers old line (reply ∷ other ∷ replies) new = ⊥

-- From the value old, with this many lines before them, these lines may have these reply lines and leave the value new.
-- The limits are tested before a line is skipped or read, and nothing after a line past them counts.
abbrev pub Run : {V : Type 0} → Answering V → ℕ → V → List (List ℕ) → List (List ℕ) → V → Type 0
Run Answers number old [] replies new = (replies ≡ []) × (new ≡ old)
Run {V} Answers number old (line ∷ lines) replies new = MatchBool (nat_lt number count_limit)
    (MatchBool (nat_le (length line) line_limit)
    ((first : List (List ℕ)) × (rest : List (List ℕ)) × (mid : V) × (replies ≡ first ++ rest)
    × LineAnswered Answers old line first mid × Run Answers (number + 1) mid lines rest new)
    ((replies ≡ line_too_long ∷ []) × (new ≡ old)))
    ((replies ≡ too_many_lines ∷ []) × (new ≡ old))

-- ---- what a lane did

-- the lane went to the end of its input, or to its limit
abbrev pub LaneDone : {V : Type 0} → Answering V → Known → Known → Known → V → V → ℕ → Type 0
LaneDone Answers input before after old new count =
    (replies : List (List ℕ)) × Appends before after (unlines replies) × (count ≡ length replies)
    × IfSome input (λ bytes. Run Answers 0 old (lines_of bytes) replies new)

-- the reader failed: the reply lines are those of the whole lines that it gave
abbrev pub LaneUnread : {V : Type 0} → Answering V → Known → Known → Known → Known → V → V → Type 0
LaneUnread Answers input rest before after old new =
    (lines : List (List ℕ)) × (piece : List ℕ) × (replies : List (List ℕ))
    × Consumes input rest (unlines lines ++ piece) × EachLacksNewline lines × LacksNewline piece
    × Appends before after (unlines replies) × Run Answers 0 old lines replies new

-- the part of a last reply line that the writer took before the fault: a prefix of it, or nothing if memory ran out
abbrev pub SentOf : LaneFault → List (List ℕ) → List ℕ → Type 0
SentOf faults.Write last part = StartsWith (unlines last) part
SentOf faults.Memory last part = part ≡ []
SentOf faults.Read last part = ⊥

-- the writer took all of these reply lines but at most the last whole, and a part of the last
abbrev pub AllSentButOne : LaneFault → List (List ℕ) → List ℕ → Type 0
AllSentButOne fault replies sent = (whole : List (List ℕ)) × (last : List (List ℕ)) × (part : List ℕ)
    × (replies ≡ whole ++ last) × (length last ≤ 1) × (sent ≡ unlines whole ++ part) × SentOf fault last part

-- the writer failed, or memory ran out: what the writer took is a prefix of the run's text, and the value is the run's after
-- the lines whose replies it took whole, with at most one line more
abbrev pub StoppedBy : {V : Type 0} → Answering V → LaneFault → ℕ → Known → Known → Known → V → V → Type 0
StoppedBy Answers fault number input before after old new =
    (lines : List (List ℕ)) × (replies : List (List ℕ)) × (sent : List ℕ)
    × FirstLines input lines × Run Answers number old lines replies new
    × Appends before after sent × AllSentButOne fault replies sent

-- how running a lane ended
abbrev pub LaneRan : {V : Type 0} → Answering V → Known → Known → Known → Known → V → V → Result ℕ LaneFault → Type 0
LaneRan Answers input rest before after old new (Ok count) = LaneDone Answers input before after old new count
LaneRan Answers input rest before after old new (Err faults.Read) = LaneUnread Answers input rest before after old new
LaneRan Answers input rest before after old new (Err faults.Write) = StoppedBy Answers faults.Write 0 input before after old new
LaneRan Answers input rest before after old new (Err faults.Memory) = StoppedBy Answers faults.Memory 0 input before after old new
