-- What one turn of a lane does.
use Rattle.std.specs.Prelude.{◌≡◌, ℕ, ◌+◌, ◌<◌, ◌≤◌, Bool, true, false, List, [], ◌∷◌, ◌++◌, length, Option, IfSome, ◌⊎◌, Result, Ok, Err}
use Rattle.std.specs.Io.KnownBytes.{Appends, Consumes}
use Rattle.gate_lines.specs.declared.fault.LaneFault.{LaneFault}
use Rattle.gate_lines.specs.declared.fault.LaneFault.TheVariants as faults
use Rattle.gate_lines.specs.Lines.{LacksNewline, line_limit, count_limit, lines_of, unlines}
use Rattle.gate_lines.specs.Reading.{PieceRead}
use Rattle.gate_message.specs.declared.event.Event.{Event}
use Rattle.gate_lane.specs.declared.lane.Turn.{Turn}
use Rattle.gate_lane.specs.declared.lane.Turn.TheVariants.{Went, Ended}
use Rattle.gate_lane.specs.Lanes.{Answering, Known, EventAnswered, LineAnswered, Run, SentOf, StoppedBy, LaneUnread}

-- memory ran out before the answer to an event, or after it
abbrev pub EventLost : {V : Type 0} → Answering V → V → Option Event → V → Type 0
EventLost Answers old event new = (new ≡ old) ⊎ ((reply : List ℕ) × EventAnswered Answers old event reply new)

-- a reply with its newline, or none, answers the line
abbrev pub AnswerMade : {V : Type 0} → Answering V → V → List ℕ → Bool → List ℕ → V → Type 0
AnswerMade Answers old line false text new = LineAnswered Answers old line [] new
AnswerMade Answers old line true text new = (reply : List ℕ) × (text ≡ reply ++ 10 ∷ []) × LineAnswered Answers old line (reply ∷ []) new

-- memory ran out before the step, or in the text of its reply
abbrev pub AnswerLost : {V : Type 0} → Answering V → V → List ℕ → V → Type 0
AnswerLost Answers old line new = (new ≡ old) ⊎ ((reply : List ℕ) × LineAnswered Answers old line (reply ∷ []) new)

-- the line's replies were written
abbrev pub Responded : {V : Type 0} → Answering V → Known → Known → V → List ℕ → V → ℕ → Type 0
Responded Answers before after old line new count = (replies : List (List ℕ)) × LineAnswered Answers old line replies new
    × Appends before after (unlines replies) × (count ≡ length replies)

-- nothing was done, or the line was answered and less than its reply line written
abbrev pub Unresponded : {V : Type 0} → Answering V → LaneFault → Known → Known → V → List ℕ → V → Type 0
Unresponded Answers fault before after old line new =
    (Appends before after [] × (new ≡ old))
    ⊎ ((reply : List ℕ) × (part : List ℕ) × LineAnswered Answers old line (reply ∷ []) new
    × Appends before after part × SentOf fault (reply ∷ []) part)

-- how answering a line ended
abbrev pub LineTaken : {V : Type 0} → Answering V → Known → Known → V → List ℕ → V → Result ℕ LaneFault → Type 0
LineTaken Answers before after old line new (Ok count) = Responded Answers before after old line new count
LineTaken Answers before after old line new (Err faults.Write) = Unresponded Answers faults.Write before after old line new
LineTaken Answers before after old line new (Err faults.Memory) = Unresponded Answers faults.Memory before after old line new
LineTaken Answers before after old line new (Err faults.Read) = ⊥

-- these are all lines of the input
abbrev pub AllLines : Known → List (List ℕ) → Type 0
AllLines input lines = IfSome input (λ bytes. lines_of bytes ≡ lines)

-- what a turn did, with `number` lines counted before it and `next` lines after it
abbrev pub TurnTaken : {V : Type 0} → Answering V → ℕ → ℕ → Known → Known → Known → Known → V → V → Result Turn LaneFault → Type 0
TurnTaken Answers number next input rest before after old new (Ok (Went count)) = (line : List ℕ) × (replies : List (List ℕ))
    × (number < count_limit) × (next ≡ number + 1) × Consumes input rest (line ++ 10 ∷ []) × LacksNewline line × (length line ≤ line_limit)
    × LineAnswered Answers old line replies new × Appends before after (unlines replies) × (count ≡ length replies) × (count ≤ 1)
TurnTaken Answers number next input rest before after old new (Ok (Ended count)) = (lines : List (List ℕ)) × (replies : List (List ℕ))
    × AllLines input lines × Run Answers number old lines replies new
    × Appends before after (unlines replies) × (count ≡ length replies) × (count ≤ 1)
TurnTaken Answers number next input rest before after old new (Err faults.Read) = PieceRead input rest × Appends before after [] × (new ≡ old)
TurnTaken Answers number next input rest before after old new (Err faults.Write) = StoppedBy Answers faults.Write number input before after old new
TurnTaken Answers number next input rest before after old new (Err faults.Memory) =
    StoppedBy Answers faults.Memory number input before after old new

-- how answering all lines ended, before what was written is sent
abbrev pub LaneCame : {V : Type 0} → Answering V → Known → Known → Known → Known → V → V → Result ℕ LaneFault → Type 0
LaneCame Answers input rest before after old new (Ok count) = (lines : List (List ℕ)) × (replies : List (List ℕ))
    × AllLines input lines × Run Answers 0 old lines replies new × Appends before after (unlines replies) × (count ≡ length replies)
LaneCame Answers input rest before after old new (Err faults.Read) = LaneUnread Answers input rest before after old new
LaneCame Answers input rest before after old new (Err faults.Write) = StoppedBy Answers faults.Write 0 input before after old new
LaneCame Answers input rest before after old new (Err faults.Memory) = StoppedBy Answers faults.Memory 0 input before after old new
