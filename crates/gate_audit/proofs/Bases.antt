-- The number that a text is.
use Rattle.std.proofs.Common.{◌≡◌, ◌↔◌, IsTrue, ℕ, ◌≤◌, ◌==◌, ◌^◌, ◌<◌, true, false, List, Option, Some, None, sym, ap, subst, ◌∙◌, arith}
use Rattle.std.proofs.lemmas.Bool.{false≢true}
use Rattle.std.proofs.lemmas.Bool.Decides.{nat_tests}
use Rattle.std.proofs.lemmas.Fmt.{IsAscii-decimal}
use Rattle.std.proofs.lemmas.Str.{IsUtf8-from_ascii}
use Rattle.std.specs.Fmt.{decimal}
use Rattle.std.specs.Option.{option_eq}
use Rattle.std.specs.Str.{IsUtf8}
use Rattle.gate_lines.specs.Numbers.{max_number, number_of}
use Rattle.gate_lines.proofs.Decimals.{decimal_number, number_decimal}

none_some : (n : ℕ) → None ≡ Some n → ⊥
none_some n h = cc

same_number : (m n : ℕ) → Some m ≡ Some n → m ≡ n
same_number m n h = cc

is_same : (m n : ℕ) → (m == n) ≡ true → m ≡ n
is_same m n h = grind (arith, nat_tests)

tells_same : (m n : ℕ) → m ≡ n → (m == n) ≡ true
tells_same m n h = grind (arith, nat_tests)

number_found : (found : Option ℕ) (text : List ℕ) (n : ℕ) → n ≤ max_number → found ≡ number_of text → IsTrue (option_eq (λ (a b : ℕ). a == b) found (Some n)) ↔ (text ≡ decimal n)
number_found None text n most is = (λ h. absurd (false≢true h), λ told. absurd (none_some n (is ∙ decimal_number text n told most)))
number_found (Some m) text n most is = (
  λ h. (number_decimal text m (sym is)).0 ∙ ap decimal (is_same m n h),
  λ told. tells_same m n (same_number m n (is ∙ decimal_number text n told most)),
)

-- a text of digits is UTF-8
pub no_number : (text : List ℕ) (n : ℕ) → n ≤ max_number → ¬ (IsUtf8 text) → IsTrue false ↔ (text ≡ decimal n)
no_number text n most none =
    let small : n < 2 ^ 64 = omega (arith, most) in
    (λ h. absurd (false≢true h), λ told. absurd (none (subst IsUtf8 (sym told) (IsUtf8-from_ascii (decimal n) (IsAscii-decimal n small)))))

pub number_is : (found : Option ℕ) (text bytes : List ℕ) (n : ℕ) → n ≤ max_number → found ≡ number_of text → text ≡ bytes → IsTrue (option_eq (λ (a b : ℕ). a == b) found (Some n)) ↔ (bytes ≡ decimal n)
number_is found text bytes n most is same = number_found found bytes n most (is ∙ ap number_of same)
