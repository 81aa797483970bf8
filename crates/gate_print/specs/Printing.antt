-- What printing a text in parts leaves in a writer.
use Rattle.std.specs.Prelude.{ℕ, ◌≤◌, List, length, take, Option, Result, Ok, Err}
use Rattle.std.specs.Io.KnownBytes.{Appends}
use Rattle.gate_lines.specs.declared.fault.LaneFault.{LaneFault}
use Rattle.gate_lines.specs.declared.fault.LaneFault.TheVariants as lane

-- a part of the text was written, or all of it
abbrev pub PartSent : Option (List ℕ) → Option (List ℕ) → List ℕ → Type 0
PartSent before after text = (n : ℕ) × (n ≤ length text) × Appends before after (take n text)

-- all of the text was written or, if the writer failed or memory ran out, a part of it
abbrev pub Prints : Option (List ℕ) → Option (List ℕ) → List ℕ → Result (Unit {0}) LaneFault → Type 0
Prints before after text (Ok done) = Appends before after text
Prints before after text (Err lane.Write) = PartSent before after text
Prints before after text (Err lane.Memory) = PartSent before after text
Prints before after text (Err lane.Read) = ⊥
