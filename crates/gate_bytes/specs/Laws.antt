-- What holds of the texts of numbers and counts: each has one, and no text begins another.
use Rattle.std.specs.Prelude.{◌≡◌, ◌↔◌, ◌⊎◌, ℕ, ℤ, ◌^◌, ◌<◌, List, [], ◌++◌, Ok, FitsSigned}
use Rattle.std.specs.Int.{w32, w64, cast_unsigned}
use Rattle.byteorder.specs.Endian.{little_bytes}
use Rattle.gate_bytes.specs.Compact.{compact, IsCount}
use Rattle.gate_bytes.specs.Reading.{IsBytes, number_at, signed_at, compact_at}

-- the widths of a number, in bytes
abbrev pub IsWidth : ℕ → Type 0
IsWidth n = (n ≡ 1) ⊎ ((n ≡ 2) ⊎ ((n ≡ 4) ⊎ (n ≡ 8)))

-- a number is read exactly if the bytes begin with its n bytes
abbrev pub NumbersAreRead : Type 0
NumbersAreRead = (n x : ℕ) (bytes rest : List ℕ) → IsWidth n → IsBytes bytes → (number_at n bytes ≡ Ok (x, rest)) ↔ ((x < 256 ^ n) × (bytes ≡ little_bytes n x ++ rest))

-- a number with a sign, of four bytes or of eight, is read exactly if the bytes begin with its own
abbrev pub SignedNumbersAreRead : Type 0
SignedNumbersAreRead = (z : ℤ) (bytes rest : List ℕ) → IsBytes bytes
    → ((signed_at w32 4 bytes ≡ Ok (z, rest)) ↔ (FitsSigned w32 z × (bytes ≡ little_bytes 4 (cast_unsigned w32 z) ++ rest)))
    × ((signed_at w64 8 bytes ≡ Ok (z, rest)) ↔ (FitsSigned w64 z × (bytes ≡ little_bytes 8 (cast_unsigned w64 z) ++ rest)))

-- a count is read exactly if the bytes begin with its text
abbrev pub CountsAreRead : Type 0
CountsAreRead = (n : ℕ) (bytes rest : List ℕ) → IsBytes bytes → (compact_at bytes ≡ Ok (n, rest)) ↔ (IsCount n × (bytes ≡ compact n ++ rest))

-- no text of a count begins a different one
abbrev pub CountsStandApart : Type 0
CountsStandApart = (m n : ℕ) (rest : List ℕ) → m < 2 ^ 64 → n < 2 ^ 64 → compact m ++ rest ≡ compact n → (m ≡ n) × (rest ≡ [])
