-- An input of a check, from the parts that a reader gives.
use Rattle.std.proofs.Common.{◌≡◌, ℕ, ◌+◌, ◌-◌, ◌≤◌, List, [], ◌∷◌, ◌++◌, length, Option, Ok, ap, arith, length-append}
use Rattle.std.specs.Io.KnownBytes.{Consumes}
use Rattle.std.proofs.KnownBytes.{Consumes-trans}
use Rattle.gate_lines.specs.declared.part.Part.TheVariants.{Newline, TooLong}
use Rattle.gate_lines.specs.Parts.{PartTaken}
use Rattle.gate_check.specs.Inputs.{ReadsWithin, input_limit}

-- what was read of an input so far
pub record InputHeld (r r' : Option (List ℕ)) (input : List ℕ) : Type 0 where
  pub taken : Consumes r r' input
  pub short : length input ≤ input_limit

-- so many bytes more were taken
within : (r r' r'' : Option (List ℕ)) (input bytes : List ℕ) → InputHeld r r' input → Consumes r' r'' bytes → length input + length bytes ≤ input_limit + 1 → ReadsWithin r r''
within r r' r'' input bytes held read few = (input ++ bytes, Consumes-trans r r' r'' input bytes held.taken read, omega (arith, length-append input bytes))

-- a line more, with its newline
pub line_within : (r r' r'' : Option (List ℕ)) (input more : List ℕ) (room : ℕ) → InputHeld r r' input → room ≡ input_limit - length input
    → PartTaken r' r'' input more room (Ok Newline) → ReadsWithin r r''
line_within r r' r'' input more room held left (bytes, read, (piece, is, clean, short, grown), end) =
    within r r' r'' input bytes held read (omega (arith, ap length is, length-append piece (10 ∷ []), short, left, held.short))

-- a byte more than may be kept
pub long_within : (r r' r'' : Option (List ℕ)) (input more : List ℕ) (room : ℕ) → InputHeld r r' input → room ≡ input_limit - length input
    → PartTaken r' r'' input more room (Ok TooLong) → ReadsWithin r r''
long_within r r' r'' input more room held left (bytes, read, (clean, long, same), end) = within r r' r'' input bytes held read (omega (arith, long, left, held.short))
