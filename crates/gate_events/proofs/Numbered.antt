-- A number, and what stands after its space.
use Rattle.std.proofs.Common.{◌≡◌, ℕ, ◌<◌, ◌≤◌, ◌^◌, ◌⊎◌, nat_lt, true, false, inl, inr, List, ◌∷◌, ◌++◌, Option, Some, None, refl, ap, subst, ◌∙◌, arith}
use Rattle.std.specs.Fmt.{decimal}
use Rattle.std.specs.Option.{option_and_then}
use Rattle.std.proofs.lemmas.Option.{option_and_then_some}
use Rattle.gate_lines.specs.Numbers.{number_of, small_number_of, fit_small, max_number}
use Rattle.gate_lines.specs.Words.{part_of}
use Rattle.gate_lines.proofs.Decimals.{number_decimal, decimal_number}
use Rattle.gate_events.specs.EventLines.{numbered_of}
use Rattle.gate_events.proofs.Again.{either, some_is}
use Rattle.gate_events.proofs.Letters.{all_letters, number_letters, number_no_space}
use Rattle.gate_events.proofs.Spaces.{part_at, part_joined}

abbrev with_rest : List ℕ → ℕ → Option (ℕ × List ℕ)
with_rest rest number = Some (number, rest)

-- what was read stood there
pub record IsNumbered (text : List ℕ) (p : ℕ × List ℕ) : Type 0 where
  pub joined : text ≡ decimal p.0 ++ 32 ∷ p.1
  pub small : p.0 ≤ max_number

numbered : (text word rest : List ℕ) (number : ℕ) → text ≡ word ++ 32 ∷ rest → number_of word ≡ Some number → IsNumbered text (number, rest)
numbered text word rest number joined is =
    let printed = number_decimal word number is in
    record { joined = joined ∙ ap (λ w. w ++ 32 ∷ rest) printed.0; small = printed.1 }

pub numbered_joined : (text : List ℕ) (p : ℕ × List ℕ) → numbered_of text ≡ Some p → IsNumbered text p
numbered_joined text p h =
    option_and_then_some (λ q. option_and_then (with_rest q.1) (number_of q.0)) (part_of text) p h (λ q at inner.
    option_and_then_some (with_rest q.1) (number_of q.0) p inner (λ number is same.
    subst (IsNumbered text) (some_is (number, q.1) p same) (numbered text q.0 q.1 number (part_joined text q.0 q.1 at) is)))

pub small_fits : (n : ℕ) → n ≤ max_number → n < 2 ^ 64
small_fits n h = omega arith

-- and what is printed is read
pub numbered_at : (n : ℕ) (rest : List ℕ) → n ≤ max_number → numbered_of (decimal n ++ 32 ∷ rest) ≡ Some (n, rest)
numbered_at n rest small = rw (part_at (decimal n) rest (number_no_space n (small_fits n small)), decimal_number (decimal n) n refl small) refl

pub decimal_letters : (n : ℕ) → n ≤ max_number → all_letters (decimal n) ≡ true
decimal_letters n small = number_letters n (small_fits n small)

-- a number of 32 bits is one that is read
pub small_decimal : (text : List ℕ) (n : ℕ) → small_number_of text ≡ Some n → text ≡ decimal n
small_decimal text n h = option_and_then_some fit_small (number_of text) n h by
  where
    found : (m : ℕ) → number_of text ≡ Some m → ((nat_lt m (2 ^ 32) ≡ true) × (◌≡◌ {A = Option ℕ} (Some m) (Some n))) ⊎ ((nat_lt m (2 ^ 32) ≡ false) × (◌≡◌ {A = Option ℕ} None (Some n))) → text ≡ decimal n
    found m is (inl fits) = (number_decimal text m is).0 ∙ ap decimal (some_is m n fits.1)
    found m is (inr large) = absurd (let none = large.1 in cc)

    by : (m : ℕ) → number_of text ≡ Some m → fit_small m ≡ Some n → text ≡ decimal n
    by m is fit = found m is (either (nat_lt m (2 ^ 32)) (Some m) None n fit)
