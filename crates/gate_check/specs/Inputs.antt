-- What is read of the input of a check.
use Rattle.std.specs.Prelude.{◌≡◌, ℕ, ◌+◌, ◌<◌, ◌≤◌, List, length, Option, Some, None, IfSome}
use Rattle.std.specs.Io.KnownBytes.{Consumes}

-- the most bytes of an input that is checked: the longest text of a transaction has this many digits
abbrev pub input_limit : ℕ
input_limit = 67108864

-- these are the bytes of the input, or `None` if it is too long
abbrev pub InputRead : Option (List ℕ) → Option (List ℕ) → Type 0
InputRead input (Some text) = (length text ≤ input_limit) × IfSome input (λ bytes. bytes ≡ text)
InputRead input None = IfSome input (λ bytes. input_limit < length bytes)

-- of an input no more than one byte past the limit was taken
abbrev pub ReadsWithin : Option (List ℕ) → Option (List ℕ) → Type 0
ReadsWithin input rest = (taken : List ℕ) × Consumes input rest taken × (length taken ≤ input_limit + 1)
