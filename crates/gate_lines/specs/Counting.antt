-- What a reader gave as its next line, after the lines that were counted.
use Rattle.std.specs.Prelude.{◌≡◌, ℕ, ◌+◌, ◌<◌, ◌≤◌, true, false, List, [], Option, Result, Ok, Err}
use Rattle.std.specs.Io.KnownBytes.{Consumes}
use Rattle.gate_lines.specs.declared.fault.LaneFault.{LaneFault}
use Rattle.gate_lines.specs.declared.fault.LaneFault.TheVariants as faults
use Rattle.gate_lines.specs.declared.line.Found.{Found}
use Rattle.gate_lines.specs.declared.line.Found.TheVariants as found
use Rattle.gate_lines.specs.declared.lines.Next.{Next}
use Rattle.gate_lines.specs.declared.lines.Next.TheVariants.{Whole, Rest, End, TooLong, TooMany}
use Rattle.gate_lines.specs.Lines.{count_limit, line_limit}
use Rattle.gate_lines.specs.Reading.{PieceRead, LineReadWithin, EndTold}

-- the line that was read last, and how many were read
pub record LastLine : Type 0 where
  pub line : List ℕ
  pub count : ℕ

-- one more line was counted
abbrev pub Counts : LastLine → LastLine → Type 0
Counts old new = (old.count < count_limit) × (new.count ≡ old.count + 1)

-- what was found was counted, if it is a line
abbrev pub FoundCounted : Found → LastLine → LastLine → Next → Type 0
FoundCounted found.Whole old new next = (next ≡ Whole) × (new.line ≡ old.line) × (new.count ≡ old.count + 1)
FoundCounted found.Rest old new next = (next ≡ Rest) × (new.line ≡ old.line) × (new.count ≡ old.count + 1)
FoundCounted found.End old new next = (next ≡ End) × (new ≡ old)
FoundCounted found.TooLong old new next = (next ≡ TooLong) × (new ≡ old)

-- whether the input ends after all lines that a reader may give
abbrev pub PastTold : Option (List ℕ) → Option (List ℕ) → Result Next LaneFault → Type 0
PastTold input rest (Ok End) = EndTold input rest (Ok true)
PastTold input rest (Ok TooMany) = EndTold input rest (Ok false)
PastTold input rest (Ok Whole) = ⊥
PastTold input rest (Ok Rest) = ⊥
PastTold input rest (Ok TooLong) = ⊥
PastTold input rest (Err fault) = EndTold input rest (Err fault)

-- the next line may have `most` bytes; after a fault some bytes of it may be lost
abbrev pub NextTaken : ℕ → Option (List ℕ) → Option (List ℕ) → LastLine → LastLine → Result Next LaneFault → Type 0
NextTaken most input rest old new (Ok Whole) = LineReadWithin most input rest new.line (Ok found.Whole) × Counts old new
NextTaken most input rest old new (Ok Rest) = LineReadWithin most input rest new.line (Ok found.Rest) × Counts old new
NextTaken most input rest old new (Ok End) =
    LineReadWithin most input rest new.line (Ok found.End) × (old.count ≤ count_limit) × (new.count ≡ old.count)
NextTaken most input rest old new (Ok TooLong) =
    LineReadWithin most input rest new.line (Ok found.TooLong) × (old.count < count_limit) × (new.count ≡ old.count)
NextTaken most input rest old new (Ok TooMany) = EndTold input rest (Ok false) × (old.count ≡ count_limit) × (new.count ≡ old.count)
NextTaken most input rest old new (Err faults.Read) = PieceRead input rest
NextTaken most input rest old new (Err faults.Memory) = PieceRead input rest
NextTaken most input rest old new (Err faults.Write) = ⊥

-- the next line, before which what was written may be sent on: if that fails, nothing was read
abbrev pub NextAsked : Option (List ℕ) → Option (List ℕ) → LastLine → LastLine → Result Next LaneFault → Type 0
NextAsked input rest old new (Ok next) = NextTaken line_limit input rest old new (Ok next)
NextAsked input rest old new (Err faults.Read) = NextTaken line_limit input rest old new (Err faults.Read)
NextAsked input rest old new (Err faults.Memory) = NextTaken line_limit input rest old new (Err faults.Memory)
NextAsked input rest old new (Err faults.Write) = Consumes input rest []
