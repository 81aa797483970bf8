-- Numbers in decimal, without sign or leading zeros.
use Rattle.std.specs.Prelude.{ℕ, nat_le, nat_lt, ◌^◌, option_and_then, ◌==◌, ◌&&◌, not, Bool, true, if◌then◌else◌, List, [], ◌∷◌, length, Option, Some, None}
use Rattle.std.specs.Str.{all_ascii_digits}
use Rattle.std.specs.Str.Parse.{digits_value}

abbrev pub max_number : ℕ
max_number = 9007199254740991

abbrev pub no_leading_zero : List ℕ → Bool
no_leading_zero [] = true
no_leading_zero (c ∷ []) = true
no_leading_zero (c ∷ d ∷ ds) = not (c == 48)

-- digits, with no zero before others
abbrev pub is_plain : List ℕ → Bool
is_plain text = nat_lt 0 (length text) && no_leading_zero text && all_ascii_digits text

abbrev pub number_of : List ℕ → Option ℕ
number_of text = if is_plain text && nat_le (digits_value 10 text) max_number then Some (digits_value 10 text) else None

abbrev pub fit_small : ℕ → Option ℕ
fit_small n = if nat_lt n (2 ^ 32) then Some n else None

-- a number of 32 bits
abbrev pub small_number_of : List ℕ → Option ℕ
small_number_of text = option_and_then fit_small (number_of text)
