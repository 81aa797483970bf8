-- What one look at a reader moves to a line, of which `room` more bytes may be kept.
use Rattle.std.specs.Prelude.{◌≡◌, ℕ, ◌+◌, ◌<◌, ◌≤◌, Bool, true, false, List, [], ◌∷◌, ◌++◌, length, take, Option, Some, None, OnSome, Result, Ok, Err}
use Rattle.std.specs.Io.KnownBytes.{Consumes, IsAtEnd}
use Rattle.gate_lines.specs.declared.fault.LaneFault.{LaneFault}
use Rattle.gate_lines.specs.declared.fault.LaneFault.TheVariants as faults
use Rattle.gate_lines.specs.declared.part.Part.{Part}
use Rattle.gate_lines.specs.declared.part.Part.TheVariants.{Newline, More, TooLong, End}
use Rattle.gate_lines.specs.Lines.{LacksNewline}

-- what the bytes that were taken are, and what became of the line
abbrev pub PartShown : Part → List ℕ → List ℕ → List ℕ → ℕ → Type 0
PartShown Newline bytes old new room = (piece : List ℕ) × (bytes ≡ piece ++ 10 ∷ []) × LacksNewline piece × (length piece ≤ room) × (new ≡ old ++ piece)
PartShown More bytes old new room = LacksNewline bytes × (length bytes ≤ room) × (0 < length bytes) × (new ≡ old ++ bytes)
PartShown TooLong bytes old new room = LacksNewline bytes × (length bytes ≡ room + 1) × (new ≡ old)
PartShown End bytes old new room = (bytes ≡ []) × (new ≡ old)

-- the line that the bytes begin with was moved, if its newline is among them and it may be kept
abbrev pub LineShown : Option ℕ → List ℕ → List ℕ → List ℕ → ℕ → Type 0
LineShown (Some taken) shown old new room = (taken ≤ length shown) × PartShown Newline (take taken shown) old new room
LineShown None shown old new room = LacksNewline (take (room + 1) shown) × (new ≡ old)

-- the reader ended, if its bytes were known
abbrev pub Ends : Part → Option (List ℕ) → Option (List ℕ) → Type 0
Ends End input rest = OnSome input (IsAtEnd rest)
Ends Newline input rest = Unit {0}
Ends More input rest = Unit {0}
Ends TooLong input rest = Unit {0}

-- after a fault nothing was taken
abbrev pub PartTaken : Option (List ℕ) → Option (List ℕ) → List ℕ → List ℕ → ℕ → Result Part LaneFault → Type 0
PartTaken input rest old new room (Ok part) = (bytes : List ℕ) × Consumes input rest bytes × PartShown part bytes old new room × Ends part input rest
PartTaken input rest old new room (Err faults.Read) = Consumes input rest [] × (new ≡ old)
PartTaken input rest old new room (Err faults.Memory) = Consumes input rest [] × (new ≡ old)
PartTaken input rest old new room (Err faults.Write) = ⊥

-- the whole line that waited was taken, or nothing
abbrev pub WaitingTaken : {E : Type 0} → Option (List ℕ) → Option (List ℕ) → List ℕ → List ℕ → ℕ → Result Bool E → Type 0
WaitingTaken input rest old new room (Ok true) = PartTaken input rest old new room (Ok Newline)
WaitingTaken input rest old new room (Ok false) = Consumes input rest [] × (new ≡ old)
WaitingTaken input rest old new room (Err fault) = Consumes input rest [] × (new ≡ old)
