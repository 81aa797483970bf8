-- What is read of a last line without a newline.
use Rattle.std.proofs.Common.{◌≡◌, ℕ, ◌+◌, ◌<◌, ◌≤◌, List, [], ◌∷◌, ◌++◌, length, Option, Some, None, Ok, refl, sym, ap, subst, ◌∙◌, arith, append_assoc, append-nil, length-append}
use Rattle.std.specs.Io.KnownBytes.{Consumes, IsAtEnd}
use Rattle.gate_lines.specs.declared.line.Found.{Found}
use Rattle.gate_lines.specs.declared.line.Found.TheVariants.{Whole, Rest, End, TooLong}
use Rattle.gate_lines.specs.Lines.{LacksNewline}
use Rattle.gate_lines.specs.Reading.{LastLinesAreRead, LineReadWithin}

has_newline : (xs ys : List ℕ) → LacksNewline (xs ++ 10 ∷ ys) → {X : Type 0} → X
has_newline [] ys h = absurd (h.0 refl)
has_newline (x ∷ xs) ys h = has_newline xs ys h.1

pub last_line_read : LastLinesAreRead
last_line_read most text line None Whole clean some short read = absurd read.0
last_line_read most text line (Some ys) Whole clean some short read =
    has_newline line ys (subst LacksNewline (read.0 ∙ append_assoc line (10 ∷ []) ys) clean)
last_line_read most text line None Rest clean some short read = absurd read.0
last_line_read most text line (Some ys) Rest clean some short read =
    (refl, sym (read.0 ∙ ap (λ (l : List ℕ). line ++ l) read.1 ∙ append-nil line))
last_line_read most text line None End clean some short read = absurd read.0
last_line_read most text line (Some ys) End clean some short read = absurd (omega (arith, ap length (read.0 ∙ read.1)))
last_line_read most text line None TooLong clean some short read = absurd read.1
last_line_read most text line (Some ys) TooLong clean some short (long, is, lacks, size) =
    absurd (omega (arith, ap length is, length-append long ys))
