-- What one line does to the rounds of an input.
use Rattle.std.specs.Prelude.{◌≡◌, ℕ, ◌+◌, ◌<◌, ◌≤◌, ◌↔◌, ◌⊎◌, Bool, true, false, List, [], ◌∷◌, ◌++◌, length, map, Option, Some, None, IfSome, Result, Ok, Err}
use Rattle.std.specs.Option.{option_map}
use Rattle.std.specs.List.{All, concat}
use Rattle.std.specs.Global.{Vec}
use Rattle.std.specs.Io.KnownBytes.{Consumes}
use Rattle.gate_lines.specs.declared.fault.LaneFault.{LaneFault}
use Rattle.gate_lines.specs.declared.fault.LaneFault.TheVariants as faults
use Rattle.gate_split.specs.declared.fault.SplitFault.{SplitFault}
use Rattle.gate_split.specs.declared.fault.SplitFault.TheVariants as split
use Rattle.gate_split.specs.declared.split.Rounds.{Rounds}
use Rattle.gate_lines.specs.Lines.{LacksNewline, count_limit, line_limit, lines_of}
use Rattle.gate_split.specs.Parts.{IsBegun, before, begun_lanes, behind, ended_lines, is_closing, is_parting, lane_limit, lanes_in, rounds_of}

-- a reader's fault as a fault of dividing its lines; reading has no fault of writing
abbrev pub split_fault : LaneFault → SplitFault
split_fault faults.Read = split.Read
split_fault faults.Write = split.Read
split_fault faults.Memory = split.Memory

-- ---- rounds so far

-- the rounds that are over; the whole lanes of the round that goes on, and its open lane, if it has one
pub record SoFar : Type 0 where
  pub over : List (List (List ℕ))
  pub whole : List (List ℕ)
  pub last : Option (List ℕ)
  pub count : ℕ

abbrev pub bytes_of : List (Vec ℕ) → List (List ℕ)
bytes_of lanes = map (λ (lane : Vec ℕ). lane.items) lanes

abbrev pub rounds_bytes : List (Vec (Vec ℕ)) → List (List (List ℕ))
rounds_bytes rounds = map (λ (lanes : Vec (Vec ℕ)). bytes_of lanes.items) rounds

abbrev pub so_far : Rounds → SoFar
so_far r = record { over = rounds_bytes r.over.items; whole = bytes_of r.whole.items; last = option_map (λ (lane : Vec ℕ). lane.items) r.last; count = r.count }

-- the lanes that these further lines of a round make: if a lane is open, the lines begin in it
abbrev pub lanes_on : Option (List ℕ) → List (List ℕ) → List (List ℕ)
lanes_on None lines = begun_lanes lines
lanes_on (Some last) lines = (last ++ concat (before is_parting lines)) ∷ begun_lanes lines

-- all rounds, from those so far and the lines that follow
abbrev pub rounds_on : SoFar → List (List ℕ) → List (List (List ℕ))
rounds_on s lines = s.over ++ (s.whole ++ lanes_on s.last (before is_closing lines)) ∷ map begun_lanes (behind is_closing lines)

-- each later round begins with a line `---`, and so does the rest of a round without an open lane
abbrev pub AreBegun : Option (List ℕ) → List (List ℕ) → Type 0
AreBegun None lines = IsBegun (before is_closing lines) × All IsBegun (behind is_closing lines)
AreBegun (Some last) lines = All IsBegun (behind is_closing lines)

abbrev pub opened : Option (List ℕ) → ℕ
opened None = 0
opened (Some last) = 1

-- the lanes so far are counted and within the limit, and there are no more rounds that are over than lanes in them
pub record IsCounted (s : SoFar) : Type 0 where
  pub count : s.count ≡ lanes_in s.over + (length s.whole + opened s.last)
  pub few : s.count ≤ lane_limit
  pub rounds : length s.over ≤ lanes_in s.over

-- ---- one line

-- whatever lines follow, the rounds are the same from the old state before this line and from the new state after it
pub record GoesOn (old new : SoFar) (line : List ℕ) : Type 0 where
  pub counted : IsCounted new
  pub rounds : (more : List (List ℕ)) → rounds_on old (line ∷ more) ≡ rounds_on new more
  pub begun : (more : List (List ℕ)) → (AreBegun old.last (line ∷ more) ↔ AreBegun new.last more)

-- whatever lines follow, there are too many lanes
abbrev pub HasTooMany : SoFar → List ℕ → Type 0
HasTooMany s line = (more : List (List ℕ)) → lane_limit < lanes_in (rounds_on s (line ∷ more))

-- whatever lines follow, a round lacks its line `---`
abbrev pub LacksLane : SoFar → List ℕ → Type 0
LacksLane s line = (more : List (List ℕ)) → ¬ AreBegun s.last (line ∷ more)

abbrev pub LineTaken : SoFar → SoFar → List ℕ → Result (Unit {0}) SplitFault → Type 0
LineTaken old new line (Ok done) = GoesOn old new line
LineTaken old new line (Err split.TooManyLanes) = HasTooMany old line
LineTaken old new line (Err split.Read) = LacksLane old line
LineTaken old new line (Err split.Memory) = Unit {0}

abbrev pub AreShort : List (List ℕ) → Type 0
AreShort lines = All (λ (line : List ℕ). length line ≤ line_limit) lines

-- One line was taken, and more may follow; or the rest of the input was taken. Before that `number` lines were counted, and
-- after it `next` lines.
abbrev pub TurnTaken : ℕ → ℕ → Option (List ℕ) → Option (List ℕ) → SoFar → SoFar → Bool → Type 0
TurnTaken number next input rest old new true = (line : List ℕ)
    × (number < count_limit) × (next ≡ number + 1) × Consumes input rest (line ++ 10 ∷ []) × LacksNewline line × (length line ≤ line_limit)
    × GoesOn old new (line ++ 10 ∷ [])
TurnTaken number next input rest old new false = IsCounted new
    × IfSome input (λ text. (number + length (lines_of text) ≤ count_limit) × AreShort (lines_of text)
    × (rounds_on old (ended_lines text) ≡ rounds_on new []) × (AreBegun old.last (ended_lines text) ↔ AreBegun new.last []))

-- the lanes so far and those of the rest of the input are too many
abbrev pub TurnHasTooMany : Option (List ℕ) → SoFar → Type 0
TurnHasTooMany input s = IfSome input (λ text. lane_limit < lanes_in (rounds_on s (ended_lines text)))

-- after this many lines, a line of the rest of the input goes past a limit, or a round lacks its line `---`
abbrev pub TurnIsIllFormed : ℕ → Option (List ℕ) → SoFar → Type 0
TurnIsIllFormed number input s = IfSome input (λ text.
    (¬ AreBegun s.last (ended_lines text)) ⊎ ((¬ AreShort (lines_of text)) ⊎ (count_limit < number + length (lines_of text))))

-- The input was taken whole: its lines are within the limits, its rounds are those so far, and each later round begins with a
-- line `---` exactly if no round still waits for one.
abbrev pub InputTaken : Option (List ℕ) → SoFar → Type 0
InputTaken input s = IsCounted s
    × IfSome input (λ text. (length (lines_of text) ≤ count_limit) × AreShort (lines_of text)
    × (rounds_of text ≡ rounds_on s []) × (All IsBegun (behind is_closing (ended_lines text)) ↔ AreBegun s.last []))
