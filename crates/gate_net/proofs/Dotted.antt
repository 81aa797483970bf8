-- The texts of addresses, from their parts and back.
use Rattle.std.proofs.Common.{◌≡◌, ℕ, ◌<◌, ◌==◌, ◌&&◌, nat_lt, if◌then◌else◌, Bool, true, false, List, [], ◌∷◌, ◌++◌, All, Option, Some, None, refl, ap, sym, subst, ◌∙◌, arith, append_assoc}
use Rattle.std.specs.List.{slice_split, list_any, join_with_byte}
use Rattle.std.specs.Str.{bytes_eq, all_ascii_digits}
use Rattle.std.specs.Str.Parse.{digits_value}
use Rattle.std.specs.Char.{is_ascii_digit}
use Rattle.std.specs.Fmt.{decimal}
use Rattle.std.specs.Net.Text.{dotted_text}
use Rattle.std.specs.Net.Grammar.{IsDotted}
use Rattle.std.proofs.lemmas.Bool.{lt-ltb, ltb-true}
use Rattle.std.proofs.lemmas.Bool.Decides.{nat_tests}
use Rattle.std.proofs.lemmas.Slice.Eq.{bytes_eq-Decides}
use Rattle.std.proofs.lemmas.List.Elements.{All-nil, All-cons}
use Rattle.std.proofs.lemmas.List.Splits.{slice_split_none, slice_split_at, join_with_byte-slice_split}
use Rattle.std.proofs.lemmas.List.Folds.{list_any-append}
use Rattle.std.proofs.lemmas.Fmt.{digits_value-decimal, digits_decimal}
use Rattle.std.proofs.lemmas.Str.Parse.{IsNumeralModel, numerals_by_value, tells_all_ascii_digits}
use Rattle.gate_net.specs.Addresses.{is_octet, four, dotted_of}
use Rattle.gate_net.specs.Spelling.{has_dot}
use Rattle.gate_net.proofs.Bools.{and_left, and_right, and_both, or_true, chosen, some_if}

abbrev parts_of : List ℕ → List (List ℕ)
parts_of text = slice_split (λ char. char == 46) text

own : IsNumeralModel (λ ds. all_ascii_digits ds ≡ true) (digits_value 10)
own = numerals_by_value _ tells_all_ascii_digits

-- a digit is no dot
no_dot : (char : ℕ) → is_ascii_digit char ≡ true → (char == 46) ≡ false
no_dot char h = grind (arith, nat_tests)

no_dots : (part : List ℕ) → all_ascii_digits part ≡ true → All (λ char. (char == 46) ≡ false) part
no_dots [] h = All-nil _
no_dots (char ∷ part) h = All-cons (λ char. (char == 46) ≡ false) char part (no_dot char (and_left _ _ h)) (no_dots part (and_right (is_ascii_digit char) _ h))

printed : (n : ℕ) → n < 256 → All (λ char. (char == 46) ≡ false) (decimal n)
printed n small = no_dots (decimal n) (digits_decimal own n (omega arith))

bytes_eq-same : (bytes : List ℕ) → bytes_eq bytes bytes ≡ true
bytes_eq-same bytes = grind (arith, bytes_eq-Decides)

bytes_same : (xs ys : List ℕ) → bytes_eq xs ys ≡ true → xs ≡ ys
bytes_same xs ys h = grind (arith, bytes_eq-Decides)

dotted : (a b c d : ℕ) → dotted_text a b c d ≡ decimal a ++ (46 ∷ (decimal b ++ (46 ∷ (decimal c ++ (46 ∷ decimal d)))))
dotted a b c d = simp append_assoc

rejoined : (a b c d : List ℕ) (k l m n : ℕ) → a ≡ decimal k → b ≡ decimal l → c ≡ decimal m → d ≡ decimal n → a ++ (46 ∷ (b ++ (46 ∷ (c ++ (46 ∷ d))))) ≡ dotted_text k l m n
rejoined a b c d k l m n p q r s = rw (p, q, r, s) (sym (dotted k l m n))

parts_of-dotted : (a b c d : ℕ) → a < 256 → b < 256 → c < 256 → d < 256 → parts_of (dotted_text a b c d) ≡ decimal a ∷ decimal b ∷ decimal c ∷ decimal d ∷ []
parts_of-dotted a b c d p q r s =
    ap parts_of (dotted a b c d)
    ∙ slice_split_at (λ char. char == 46) (decimal a) 46 (decimal b ++ (46 ∷ (decimal c ++ (46 ∷ decimal d)))) (printed a p) refl
    ∙ ap (λ l. decimal a ∷ l) (slice_split_at (λ char. char == 46) (decimal b) 46 (decimal c ++ (46 ∷ decimal d)) (printed b q) refl
    ∙ ap (λ l. decimal b ∷ l) (slice_split_at (λ char. char == 46) (decimal c) 46 (decimal d) (printed c r) refl
    ∙ ap (λ l. decimal c ∷ l) (slice_split_none (λ char. char == 46) (decimal d) (printed d s))))

value : (n : ℕ) → n < 256 → digits_value 10 (decimal n) ≡ n
value n small = digits_value-decimal own n (omega arith)

is_octet-decimal : (n : ℕ) → n < 256 → is_octet (decimal n) ≡ true
is_octet-decimal n small = rw (value n small) (and_both _ _ (lt-ltb _ _ small) (bytes_eq-same (decimal n)))

pub dotted_of-dotted : (text octets : List ℕ) → IsDotted text octets → dotted_of text ≡ Some octets
unfolding dotted_of
dotted_of-dotted text octets d =
    let parts = ap parts_of d.spelled ∙ parts_of-dotted d.a d.b d.c d.d d.fit.0 d.fit.1 d.fit.2 d.fit.3 in
    let all = and_both _ _ (is_octet-decimal d.a d.fit.0) (and_both _ _ (is_octet-decimal d.b d.fit.1) (and_both _ _ (is_octet-decimal d.c d.fit.2) (is_octet-decimal d.d d.fit.3))) in
    ap four parts ∙ chosen _ _ all
    ∙ ap Some (rw (value d.a d.fit.0, value d.b d.fit.1, value d.c d.fit.2, value d.d d.fit.3) (sym d.value))

octet-small : (part : List ℕ) → is_octet part ≡ true → digits_value 10 part < 256
octet-small part h = ltb-true _ _ (and_left _ _ h)

octet-printed : (part : List ℕ) → is_octet part ≡ true → part ≡ decimal (digits_value 10 part)
octet-printed part h = bytes_same part _ (and_right (nat_lt (digits_value 10 part) 256) _ h)

dotted-four : (parts : List (List ℕ)) (octets : List ℕ) → four parts ≡ Some octets → IsDotted (join_with_byte 46 parts) octets
dotted-four [] octets h = cc
dotted-four (a ∷ []) octets h = cc
dotted-four (a ∷ b ∷ []) octets h = cc
dotted-four (a ∷ b ∷ c ∷ []) octets h = cc
dotted-four (a ∷ b ∷ c ∷ d ∷ []) octets h =
    let found = some_if _ _ octets h in
    let first = and_left _ _ found.0 in
    let rest = and_right (is_octet a) _ found.0 in
    let second = and_left _ _ rest in
    let later = and_right (is_octet b) _ rest in
    let third = and_left _ _ later in
    let fourth = and_right (is_octet c) _ later in
    record {
      a = digits_value 10 a;
      b = digits_value 10 b;
      c = digits_value 10 c;
      d = digits_value 10 d;
      fit = (octet-small a first, octet-small b second, octet-small c third, octet-small d fourth);
      value = sym found.1;
      spelled = rejoined a b c d _ _ _ _ (octet-printed a first) (octet-printed b second) (octet-printed c third) (octet-printed d fourth);
    }
dotted-four (a ∷ b ∷ c ∷ d ∷ e ∷ parts) octets h = cc

pub dotted-dotted_of : (text octets : List ℕ) → dotted_of text ≡ Some octets → IsDotted text octets
unfolding dotted_of
dotted-dotted_of text octets h = subst (λ t. IsDotted t octets) (join_with_byte-slice_split 46 text) (dotted-four (parts_of text) octets h)

-- a text with a dot in it
dot_inside : (xs ys : List ℕ) → has_dot (xs ++ (46 ∷ ys)) ≡ true
dot_inside xs ys = list_any-append (λ char. char == 46) xs (46 ∷ ys) ∙ or_true (has_dot xs)

pub has_dot-dotted : (text octets : List ℕ) → IsDotted text octets → has_dot text ≡ true
has_dot-dotted text octets d = ap has_dot (d.spelled ∙ dotted d.a d.b d.c d.d) ∙ dot_inside (decimal d.a) _
