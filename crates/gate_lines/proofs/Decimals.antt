-- A number's text is what is printed for it.
use Rattle.std.proofs.Common.{◌≡◌, ◌≢◌, ℕ, zero, suc, ◌<◌, ◌≤◌, ◌^◌, ◌==◌, ◌&&◌, not, nat_lt, nat_le, if◌then◌else◌, Bool, true, false, List, [], ◌∷◌, length, get_or, Some, None, refl, ap, sym, ◌∙◌, arith}
use Rattle.std.specs.Fmt.{decimal}
use Rattle.std.specs.Str.Parse.{digits_value}
use Rattle.std.proofs.lemmas.Bool.{lt-ltb, le-leb, leb-true, ltb-true}
use Rattle.std.proofs.lemmas.Bool.Decides.{nat_tests}
use Rattle.std.proofs.lemmas.Fmt.{decimal-digits_value, digits_decimal, digits_value-decimal, decimal_nonempty, first_decimal, decimal_digit}
use Rattle.gate_lines.specs.Numbers.{number_of, is_plain, no_leading_zero, max_number}
use Rattle.gate_lines.proofs.NumberParts.{own, and_left, and_right, and_both}

some_if : (b : Bool) (v n : ℕ) → (if b then Some v else None) ≡ Some n → (b ≡ true) × (v ≡ n)
some_if true v n h = (refl, cc)
some_if false v n h = cc

zero_alone : (text : List ℕ) → no_leading_zero text ≡ true → 0 < length text → get_or text 0 0 ≡ 48 → length text ≡ 1
zero_alone [] h some e = absurd (omega arith)
zero_alone (c ∷ []) h some e = refl
zero_alone (c ∷ d ∷ ds) h some e = let t : (c == 48) ≡ true = grind (arith, nat_tests) in cc

no_zero : (text : List ℕ) → (1 < length text → get_or text 0 0 ≢ 48) → no_leading_zero text ≡ true
no_zero [] h = refl
no_zero (c ∷ []) h = refl
no_zero (c ∷ d ∷ ds) h =
    let other : c ≢ 48 = h (omega arith) in
    let t : (c == 48) ≡ false = grind (arith, nat_tests) in ap not t

pub number_decimal : (text : List ℕ) (n : ℕ) → number_of text ≡ Some n → (text ≡ decimal n) × (n ≤ max_number)
number_decimal text n h =
    let found = some_if (is_plain text && nat_le (digits_value 10 text) max_number) (digits_value 10 text) n h in
    let plain : is_plain text ≡ true = and_left _ _ found.0 in
    let small : digits_value 10 text ≤ max_number = leb-true _ _ (and_right (is_plain text) _ found.0) in
    let front = and_left _ _ plain in
    let some : 0 < length text = ltb-true _ _ (and_left _ _ front) in (
      sym (decimal-digits_value own text (and_right _ _ plain) some (zero_alone text (and_right (nat_lt 0 (length text)) _ front) some) (omega arith)) ∙ ap decimal found.1,
      omega (arith, found.1),
    )

decimal_plain : (n : ℕ) → n ≤ max_number → no_leading_zero (decimal n) ≡ true
decimal_plain zero small = ap no_leading_zero (decimal_digit 0 (omega arith))
decimal_plain (suc n) small = no_zero (decimal (suc n)) (λ long e. omega (arith, e, first_decimal (suc n) (omega arith) (omega arith)))

chosen : (b : Bool) (v : ℕ) → b ≡ true → (if b then Some v else None) ≡ Some v
chosen true v h = refl
chosen false v h = cc

pub decimal_number : (text : List ℕ) (n : ℕ) → text ≡ decimal n → n ≤ max_number → number_of text ≡ Some n
decimal_number text n is small =
    let fits : n < 2 ^ 64 = omega arith in
    let plain : is_plain (decimal n) ≡ true = and_both _ _ (and_both _ _ (lt-ltb _ _ (decimal_nonempty n fits)) (decimal_plain n small)) (digits_decimal own n fits) in
    let value : digits_value 10 (decimal n) ≡ n = digits_value-decimal own n fits in
    let le : nat_le (digits_value 10 (decimal n)) max_number ≡ true = rw value (le-leb _ _ small) in
    ap number_of is ∙ chosen (is_plain (decimal n) && nat_le (digits_value 10 (decimal n)) max_number) (digits_value 10 (decimal n)) (and_both _ _ plain le) ∙ ap Some value
