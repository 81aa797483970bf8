-- Texts of printed characters: numbers and hex are such texts, and have no space.
use Rattle.std.proofs.Common.{◌≡◌, ℕ, zero, suc, ◌<◌, ◌^◌, ◌/◌, ◌%◌, ◌==◌, ◌&&◌, ◌||◌, nat_lt, Bool, true, false, List, [], ◌∷◌, ◌++◌, length, get_or, refl, ◌∙◌, arith}
use Rattle.std.specs.Char.{is_ascii_digit}
use Rattle.std.specs.Fmt.{decimal}
use Rattle.std.specs.List.{list_all}
use Rattle.std.specs.Str.{IsAscii, all_ascii_digits}
use Rattle.std.proofs.lemmas.Bool.{and_parts, ltb-true}
use Rattle.std.proofs.lemmas.Bool.Decides.{nat_tests}
use Rattle.std.proofs.lemmas.Fmt.{digits_decimal}
use Rattle.std.proofs.lemmas.List.Folds.{list_all-append}
use Rattle.std.proofs.lemmas.Str.Ascii.{IsAscii-nil, IsAscii-cons}
use Rattle.hex.specs.Hex.{encode_lower, encode_with, lower_digits}
use Rattle.gate_lines.proofs.NumberParts.{own, and_both}
use Rattle.gate_events.proofs.Spaces.{has_space}

-- an ASCII character that is printed, or a space
abbrev pub is_letter : ℕ → Bool
is_letter b = nat_lt 31 b && nat_lt b 127

abbrev pub all_letters : List ℕ → Bool
all_letters text = list_all is_letter text

pub letters_joined : (a b : List ℕ) → all_letters a ≡ true → all_letters b ≡ true → all_letters (a ++ b) ≡ true
letters_joined a b first second = list_all-append is_letter a b ∙ rw first second

pub letters_ascii : (text : List ℕ) → all_letters text ≡ true → IsAscii text
letters_ascii [] h = IsAscii-nil
letters_ascii (b ∷ text) h =
    let parts = and_parts (is_letter b) (all_letters text) h in
    let small : b < 127 = ltb-true _ _ (and_parts (nat_lt 31 b) (nat_lt b 127) parts.0).1 in
    IsAscii-cons b text (omega arith) (letters_ascii text parts.1)

-- ---- numbers

digit_letter : (c : ℕ) → is_ascii_digit c ≡ true → is_letter c ≡ true
digit_letter c h = grind (arith, nat_tests)

digit_no_space : (c : ℕ) → is_ascii_digit c ≡ true → (c == 32) ≡ false
digit_no_space c h = grind (arith, nat_tests)

digits_letters : (text : List ℕ) → all_ascii_digits text ≡ true → all_letters text ≡ true
digits_letters [] h = refl
digits_letters (c ∷ text) h =
    let parts = and_parts (is_ascii_digit c) (all_ascii_digits text) h in
    and_both _ _ (digit_letter c parts.0) (digits_letters text parts.1)

digits_no_space : (text : List ℕ) → all_ascii_digits text ≡ true → has_space text ≡ false
digits_no_space [] h = refl
digits_no_space (c ∷ text) h =
    let parts = and_parts (is_ascii_digit c) (all_ascii_digits text) h in
    rw (digit_no_space c parts.0) (digits_no_space text parts.1)

pub number_letters : (n : ℕ) → n < 2 ^ 64 → all_letters (decimal n) ≡ true
number_letters n h = digits_letters (decimal n) (digits_decimal own n h)

pub number_no_space : (n : ℕ) → n < 2 ^ 64 → has_space (decimal n) ≡ false
number_no_space n h = digits_no_space (decimal n) (digits_decimal own n h)

-- ---- hex

-- a digit of the table, or 0 past its end
at_space : (table : List ℕ) (k : ℕ) → has_space table ≡ false → (get_or table k 0 == 32) ≡ false
at_space [] k h = refl
at_space (c ∷ table) zero h = by (c == 32) refl h
  where
    by : (here : Bool) → (c == 32) ≡ here → (here || has_space table) ≡ false → (c == 32) ≡ false
    by true is none = absurd cc
    by false is none = is
at_space (c ∷ table) (suc k) h = by (c == 32) h (at_space table k)
  where
    by : (here : Bool) → (here || has_space table) ≡ false → (has_space table ≡ false → (get_or table k 0 == 32) ≡ false) → (get_or table k 0 == 32) ≡ false
    by true none later = absurd cc
    by false none later = later none

at_letter : (table : List ℕ) (k : ℕ) → k < length table → all_letters table ≡ true → is_letter (get_or table k 0) ≡ true
at_letter [] k lt h = absurd (omega arith)
at_letter (c ∷ table) zero lt h = (and_parts (is_letter c) (all_letters table) h).0
at_letter (c ∷ table) (suc k) lt h = at_letter table k (omega arith) (and_parts (is_letter c) (all_letters table) h).1

pub hex_no_space : (bytes : List ℕ) → has_space (encode_lower bytes) ≡ false
unfolding encode_with
hex_no_space [] = refl
hex_no_space (b ∷ bytes) = rw (at_space lower_digits (b / 16) refl, at_space lower_digits (b % 16) refl) (hex_no_space bytes)

pub hex_letters : (bytes : List ℕ) → ((k : ℕ) → get_or bytes k 0 < 256) → all_letters (encode_lower bytes) ≡ true
unfolding encode_with
hex_letters [] fits = refl
hex_letters (b ∷ bytes) fits =
    let first : b < 256 = fits 0 in
    and_both _ _ (at_letter lower_digits (b / 16) (omega arith) refl)
    (and_both _ _ (at_letter lower_digits (b % 16) (omega arith) refl) (hex_letters bytes (λ k. fits (suc k))))

pub hex_filled : (bytes : List ℕ) → 0 < length bytes → 0 < length (encode_lower bytes)
unfolding encode_with
hex_filled [] some = absurd (omega arith)
hex_filled (b ∷ bytes) some = omega arith
