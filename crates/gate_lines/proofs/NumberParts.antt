-- Parts of a line, and numbers.
use Rattle.std.proofs.Common.{◌≡◌, ◌≢◌, ℕ, ◌≤◌, ◌==◌, ◌&&◌, nat_lt, nat_le, if◌then◌else◌, Bool, true, false, List, length, get_or, Option, Some, None, Result, Ok, Err, refl, ap, sym, subst, ◌∙◌, ◌+◌, arith, take, drop}
use Rattle.std.proofs.lemmas.List.Sums.{position_or_len_is}
use Rattle.memchr.specs.Find.{IsFirstByte, is_byte}
use Rattle.std.specs.Str.{all_ascii_digits}
use Rattle.std.specs.Str.Parse.{digits_value, ParsesUnsigned}
use Rattle.std.proofs.lemmas.Bool.{true≢false, lt-ltb, le-leb, leb-true, ltb-true}
use Rattle.std.proofs.lemmas.Bool.Decides.{nat_tests}
use Rattle.std.proofs.lemmas.Str.Parse.{IsNumeralModel, numerals_by_value, tells_all_ascii_digits, parse_plain}
use Rattle.gate_lines.specs.Words.{part_of}
use Rattle.gate_lines.specs.Numbers.{number_of, is_plain, no_leading_zero, max_number}

not-lt : (a b : ℕ) → a ≡ b → nat_lt a b ≡ false
not-lt a b h = grind (arith, nat_tests)

not_true : (b : Bool) → (b ≡ true → ⊥) → b ≡ false
not_true true h = absurd (h refl)
not_true false h = refl

pub space_is : (x : ℕ) → is_byte 32 x ≡ true → x ≡ 32
space_is x e = grind (arith, nat_tests)

-- the first space parts the line
pub parted_at : (line : List ℕ) (place : ℕ) → IsFirstByte (is_byte 32) line (Some place) → part_of line ≡ Some (take place line, drop (place + 1) line)
unfolding part_of
parted_at line place first =
    let at = position_or_len_is (λ b. b == 32) line place 0 (omega (arith, first.0.high)) (λ k low. not_true _ (first.0.before k (omega arith) low)) (λ _. first.1) in
    rw (at, lt-ltb _ _ first.0.high) refl

pub unparted : (line : List ℕ) → IsFirstByte (is_byte 32) line None → part_of line ≡ None
unfolding part_of
unparted line none =
    let at = position_or_len_is (λ b. b == 32) line (length line) 0 (omega arith) (λ k low. not_true _ (none k (omega arith) low)) (λ l. absurd (omega (arith, l))) in
    rw (not-lt _ _ at) refl

pub own : IsNumeralModel (λ ds. all_ascii_digits ds ≡ true) (digits_value 10)
own = numerals_by_value _ tells_all_ascii_digits

parsed : {E : Type 0} → Result ℕ E → Option ℕ
parsed (Ok n) = if nat_le n max_number then Some n else None
parsed (Err e) = None

if_false : (b : Bool) (n : ℕ) → (b ≡ true → ⊥) → (if b then Some n else None) ≡ None
if_false true n h = absurd (h refl)
if_false false n h = refl

if_and : (a b : Bool) (n : ℕ) → a ≡ true → (if a && b then Some n else None) ≡ (if b then Some n else None)
if_and true b n h = refl
if_and false b n h = cc

pub and_left : (a b : Bool) → (a && b) ≡ true → a ≡ true
and_left true b h = refl
and_left false b h = cc

pub and_right : (a b : Bool) → (a && b) ≡ true → b ≡ true
and_right true b h = h
and_right false b h = cc

pub and_both : (a b : Bool) → a ≡ true → b ≡ true → (a && b) ≡ true
and_both true b h k = k
and_both false b h k = cc

pub number_from_ok : (E : Type 0) (text : List ℕ) (n : ℕ) → get_or text 0 0 ≢ 43 → no_leading_zero text ≡ true → ParsesUnsigned {E = E} 64 10 text (Ok n)
    → (if nat_le n max_number then Some n else None) ≡ number_of text
number_from_ok E text n first zero h =
    let known = parse_plain own {E = E} 64 text (Ok n) h first in
    let plain : is_plain text ≡ true = and_both _ _ (and_both _ _ (lt-ltb _ _ known.0.1) zero) known.0.0 in
    ap (λ k. if nat_le k max_number then Some k else None) known.1 ∙ sym (if_and (is_plain text) _ _ plain)

pub number_from_err : {E : Type 0} (text : List ℕ) (e : E) → get_or text 0 0 ≢ 43 → ParsesUnsigned {E = E} 64 10 text (Err e) → None ≡ number_of text
number_from_err {E} text e first h =
    let known = parse_plain own {E = E} 64 text (Err e) h first in
    sym (if_false _ _ (λ all.
    let plain = and_left (is_plain text) _ all in
    let some = ltb-true _ _ (and_left _ _ (and_left _ _ plain)) in
    let small : digits_value 10 text ≤ max_number = leb-true _ _ (and_right (is_plain text) _ all) in
    known (and_right _ _ plain, some, omega arith)))

pub number_not_zero : (text : List ℕ) → no_leading_zero text ≡ false → None ≡ number_of text
number_not_zero text h = sym (if_false _ _ (λ all.
    true≢false (sym (and_right (nat_lt 0 (length text)) (no_leading_zero text) (and_left _ _ (and_left (is_plain text) _ all))) ∙ h)))

pub number_read : {E : Type 0} (text : List ℕ) (r : Result ℕ E) (n : ℕ) → r ≡ Ok n → n ≤ max_number → get_or text 0 0 ≢ 43 → no_leading_zero text ≡ true → ParsesUnsigned 64 10 text r
    → Some n ≡ number_of text
number_read {E} text r n is small first zero h =
    let none : Option ℕ = None in
    sym (ap (λ b. if b then Some n else none) (le-leb _ _ small)) ∙ number_from_ok E text n first zero (subst (λ (q : Result ℕ E). ParsesUnsigned 64 10 text q) is h)
