-- What reading an opening takes from the known bytes of a reader, and what it answers.
use Rattle.std.specs.Prelude.{◌≡◌, ℕ, ◌+◌, ◌≤◌, if◌then◌else◌, false, List, [], ◌∷◌, ◌++◌, length, take, Option, IfSome, Result, Ok, Err}
use Rattle.std.specs.List.{list_any}
use Rattle.std.specs.Io.KnownBytes.{Consumes}
use Rattle.gate_opening.specs.declared.opening.Step.{Step}
use Rattle.gate_opening.specs.declared.opening.Step.TheVariants.{Went, Ended}
use Rattle.gate_opening.specs.declared.opening_fault.OpeningFault.{OpeningFault}
use Rattle.gate_opening.specs.declared.opening_fault.OpeningFault.TheVariants.{Line, Read, Memory}
use Rattle.gate_lines.specs.Lines.{LacksNewline, EachLacksNewline, line_limit, lines_of, unlines}
use Rattle.gate_lines.specs.Reading.{PieceRead}
use Rattle.gate_opening.specs.Said.{Said, nothing_said, all_said, with_text, is_end}

-- the bytes of these lines with a newline each, up to a line `---` and its newline
abbrev pub opening_length : List (List ℕ) → ℕ
opening_length [] = 0
opening_length (line ∷ lines) = length line + 1 + (if is_end line then 0 else opening_length lines)

-- the front of a text that is its opening, the line `---` included
abbrev pub opening_part : List ℕ → List ℕ
opening_part text = take (opening_length (lines_of text)) text

-- exactly the opening was read
abbrev pub LeavesRest : Option (List ℕ) → Option (List ℕ) → Type 0
LeavesRest input rest = IfSome input (λ text. Consumes input rest (opening_part text))

-- the reader failed within the opening: the whole lines that it gave have no fault, and none of them ends it
abbrev pub OpeningUnread : Option (List ℕ) → Option (List ℕ) → Type 0
OpeningUnread input rest =
    (lines : List (List ℕ)) × (piece : List ℕ) × (said : Said)
    × Consumes input rest (unlines lines ++ piece) × EachLacksNewline lines × LacksNewline piece
    × (list_any is_end lines ≡ false) × (all_said 0 nothing_said lines ≡ Ok said)

-- ---- steps

-- what reading one more line did, with this many lines before it
abbrev pub StepTaken : ℕ → Option (List ℕ) → Option (List ℕ) → Said → Said → Result Step OpeningFault → Type 0
StepTaken number input rest old new (Ok Went) = (line : List ℕ)
    × Consumes input rest (line ++ 10 ∷ []) × LacksNewline line × (length line ≤ line_limit)
    × (is_end line ≡ false) × (with_text old (number + 1) line ≡ Ok new)
StepTaken number input rest old new (Ok Ended) =
    IfSome input (λ text. (all_said number old (lines_of text) ≡ Ok new) × Consumes input rest (opening_part text))
StepTaken number input rest old new (Err (Line line token)) = IfSome input (λ text. all_said number old (lines_of text) ≡ Err (Line line token))
StepTaken number input rest old new (Err Read) = PieceRead input rest
StepTaken number input rest old new (Err Memory) = Unit {0}

-- what reading all lines gave, if nothing was said before
abbrev pub OpeningGathered : Option (List ℕ) → Option (List ℕ) → Said → Result (Unit {0}) OpeningFault → Type 0
OpeningGathered input rest said (Ok done) =
    IfSome input (λ text. (all_said 0 nothing_said (lines_of text) ≡ Ok said) × Consumes input rest (opening_part text))
OpeningGathered input rest said (Err (Line line token)) = IfSome input (λ text. all_said 0 nothing_said (lines_of text) ≡ Err (Line line token))
OpeningGathered input rest said (Err Read) = OpeningUnread input rest
OpeningGathered input rest said (Err Memory) = Unit {0}
