-- An id's digits stand in quotes as they are.
use Rattle.std.proofs.Common.{◌≡◌, ℕ, ◌-◌, ◌/◌, ◌%◌, ◌<◌, List, [], ◌∷◌, ◌++◌, length, reverse, suc, true, refl, arith, inl, inr}
use Rattle.std.specs.Prelude.{slice_index}
use Rattle.std.specs.Str.{bytes_eq}
use Rattle.std.specs.Cmp.Lexicographic.{bytes_decides}
use Rattle.std.proofs.lemmas.Bool.{agree_below_at}
use Rattle.std.proofs.lemmas.Bool.{cases_lt}
use Rattle.std.proofs.lemmas.List.{length-reverse, get_or-reverse, get_or_past}
use Rattle.hex.specs.Hex.{IsBytes, encode_lower, encode_with, lower_digits}
use Rattle.json.specs.Print.{escape, escape_byte, quoted}
use Rattle.gate_tx.specs.Ids.{id_text}

plain_below : (k : ℕ) → k < 16 → bytes_eq (escape_byte (slice_index lower_digits k)) (slice_index lower_digits k ∷ []) ≡ true
unfolding escape_byte
plain_below k h = agree_below_at (λ d. bytes_eq (escape_byte (slice_index lower_digits d)) (slice_index lower_digits d ∷ [])) (λ _. true) 16 k refl h

plain_digit : (k : ℕ) → k < 16 → escape_byte (slice_index lower_digits k) ≡ slice_index lower_digits k ∷ []
plain_digit k h = (bytes_decides _ _).0 (plain_below k h)

escape_digits : (bytes : List ℕ) → IsBytes bytes → escape (encode_lower bytes) ≡ encode_lower bytes
unfolding encode_with
escape_digits [] h = refl
escape_digits (b ∷ rest) h =
    let fits : b < 256 = h 0 in
    rw (plain_digit (b / 16) (omega arith), plain_digit (b % 16) (omega arith), escape_digits rest (λ k. h (suc k))) refl

reverse_bytes : (xs : List ℕ) → IsBytes xs → IsBytes (reverse xs)
reverse_bytes xs fits i =
    elim (cases_lt i (length xs)) [
      | inl lt ↦ rw (get_or-reverse xs i 0 lt) (fits (length xs - 1 - i))
      | inr le ↦ rw (get_or_past (reverse xs) i 0 (omega (arith, length-reverse xs))) (omega arith)
    ]

pub quoted_hex : (bytes : List ℕ) → IsBytes bytes → 34 ∷ (encode_lower bytes ++ 34 ∷ []) ≡ quoted (encode_lower bytes)
quoted_hex bytes fits = rw (escape_digits bytes fits) refl

pub quoted_id : (id : List ℕ) → IsBytes id → 34 ∷ (id_text id ++ 34 ∷ []) ≡ quoted (id_text id)
quoted_id id fits = rw (escape_digits (reverse id) (reverse_bytes id fits)) refl
