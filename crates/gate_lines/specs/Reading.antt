-- What reading a line takes from the known bytes of a reader.
use Rattle.std.specs.Prelude.{◌≡◌, ℕ, ◌+◌, ◌<◌, ◌≤◌, Bool, true, false, List, [], ◌∷◌, ◌++◌, length, Option, OnSome, Some, Result, Ok, Err}
use Rattle.std.specs.Io.KnownBytes.{Consumes, IsAtEnd}
use Rattle.gate_lines.specs.declared.fault.LaneFault.{LaneFault}
use Rattle.gate_lines.specs.declared.fault.LaneFault.TheVariants as faults
use Rattle.gate_lines.specs.declared.line.Found.{Found}
use Rattle.gate_lines.specs.declared.line.Found.TheVariants.{Whole, Rest, End, TooLong}
use Rattle.gate_lines.specs.Lines.{LacksNewline, line_limit}

-- a piece of a line was read, with no newline in it
abbrev pub PieceRead : Option (List ℕ) → Option (List ℕ) → Type 0
PieceRead old new = (piece : List ℕ) × Consumes old new piece × LacksNewline piece

-- a line of at most `most` bytes was read
abbrev pub LineReadWithin : ℕ → Option (List ℕ) → Option (List ℕ) → List ℕ → Result Found LaneFault → Type 0
LineReadWithin most old new line (Ok Whole) = Consumes old new (line ++ 10 ∷ []) × LacksNewline line × (length line ≤ most)
LineReadWithin most old new line (Ok Rest) = Consumes old new line × OnSome old (IsAtEnd new) × LacksNewline line × (length line ≤ most) × (0 < length line)
LineReadWithin most old new line (Ok End) = Consumes old new [] × OnSome old (IsAtEnd new)
LineReadWithin most old new line (Ok TooLong) = (long : List ℕ) × Consumes old new long × LacksNewline long × (length long ≡ most + 1)
-- the reader failed, and what it gave of the line before is kept
LineReadWithin most old new line (Err faults.Read) = Consumes old new line × LacksNewline line
-- memory ran out for more of the line, and what was taken is kept
LineReadWithin most old new line (Err faults.Memory) = Consumes old new line × LacksNewline line
LineReadWithin most old new line (Err faults.Write) = ⊥

-- a last line without a newline that has at most `most` bytes is read whole, also if it has exactly as many
abbrev pub LastLinesAreRead : Type 0
LastLinesAreRead = (most : ℕ) (text line : List ℕ) (rest : Option (List ℕ)) (found : Found) → LacksNewline text → 0 < length text → length text ≤ most
    → LineReadWithin most (Some text) rest line (Ok found) → (found ≡ Rest) × (line ≡ text)

abbrev pub LineRead : Option (List ℕ) → Option (List ℕ) → List ℕ → Result Found LaneFault → Type 0
LineRead old new line result = LineReadWithin line_limit old new line result

-- a line was read, before which what was written may be sent on: if that fails, nothing was read
abbrev pub LineAsked : Option (List ℕ) → Option (List ℕ) → List ℕ → Result Found LaneFault → Type 0
LineAsked old new line (Ok found) = LineRead old new line (Ok found)
LineAsked old new line (Err faults.Read) = LineRead old new line (Err faults.Read)
LineAsked old new line (Err faults.Memory) = LineRead old new line (Err faults.Memory)
LineAsked old new line (Err faults.Write) = Consumes old new []

-- whether the input ends, and the bytes that were taken to find out
abbrev pub EndTold : Option (List ℕ) → Option (List ℕ) → Result Bool LaneFault → Type 0
EndTold old new (Ok true) = Consumes old new [] × OnSome old (IsAtEnd new)
EndTold old new (Ok false) = (byte : ℕ) × Consumes old new (byte ∷ [])
EndTold old new (Err faults.Read) = Consumes old new []
EndTold old new (Err faults.Memory) = Consumes old new []
EndTold old new (Err faults.Write) = ⊥
