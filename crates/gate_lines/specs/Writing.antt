-- What writing a text leaves in a writer: the bytes that it took, some of which a writer with a buffer may still hold.
use Rattle.std.specs.Prelude.{ℕ, ◌<◌, List, [], length, take, Option, Result, Ok, Err}
use Rattle.std.specs.Io.KnownBytes.{Appends}
use Rattle.gate_lines.specs.declared.fault.LaneFault.{LaneFault}
use Rattle.gate_lines.specs.declared.fault.LaneFault.TheVariants as faults

-- the writer took a part of the text, and not all of it
abbrev pub PartWritten : Option (List ℕ) → Option (List ℕ) → List ℕ → Type 0
PartWritten old new text = (n : ℕ) × (n < length text) × Appends old new (take n text)

abbrev pub TextWritten : Option (List ℕ) → Option (List ℕ) → List ℕ → Result (Unit {0}) LaneFault → Type 0
TextWritten old new text (Ok done) = Appends old new text
TextWritten old new text (Err faults.Write) = PartWritten old new text
TextWritten old new text (Err faults.Memory) = Appends old new []
TextWritten old new text (Err faults.Read) = ⊥
