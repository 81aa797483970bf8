-- What two digits and all pairs of them read as.
use Rattle.std.proofs.Common.{◌≡◌, ℕ, ◌+◌, ◌*◌, ◌<◌, ◌≤◌, ◌%◌, false, true, List, length, take, drop, slice_index, slice_set, Some, None, Result, Ok, Err, IsErr, ◌⊎◌, inl, inr, max, refl, sym, ap, ◌∙◌, arith}
use Rattle.std.proofs.Math.Nat.{le-max_left, le-max_right}
use Rattle.std.specs.Ordering.{nat_cmp, ord_max}
use Rattle.std.proofs.lemmas.Bool.{cases_lt}
use Rattle.hex.specs.Hex.{hex_digit_value, pair_value, decode_of, decode_pairs}
use Rattle.hex.proofs.Pairs.{prepend, decode_err, decode_step}

-- while each digit was one, what is decoded stands before what the rest decodes to; else the text spells nothing
abbrev pub SoFar : List ℕ → List ℕ → ℕ → ℕ → Type 0
SoFar s out i greatest =
    (greatest < 16 → decode_pairs 0 s ≡ prepend (take i out) (decode_pairs (2 * i) (drop (2 * i) s)))
    × (16 ≤ greatest → IsErr (decode_pairs 0 s))

-- a value below 16 is the digit's, and any other says that it is none
abbrev pub Reads : ℕ → ℕ → Type 0
Reads byte value = (value < 16 → hex_digit_value byte ≡ Some value) × (16 ≤ value → hex_digit_value byte ≡ None)

clash : false ≡ true → ⊥
clash e = let z : ◌≡◌ {A = ℕ} 0 1 = cc in omega arith

err_of : {T E : Type 0} (r : Result T E) → IsErr r → (e : E) × (r ≡ Err e)
err_of (Ok x) h = absurd (clash h)
err_of (Err e) h = (e, refl)

is_err : {T E : Type 0} (r : Result T E) (e : E) → r ≡ Err e → IsErr r
is_err r e h = rw h refl

pair_read : (a b h l i : ℕ) → hex_digit_value a ≡ Some h → hex_digit_value b ≡ Some l → pair_value a b i ≡ Ok (h * 16 + l)
pair_read a b h l i ha hb = rw (ha, hb) refl

high_none : (a b i : ℕ) → hex_digit_value a ≡ None → IsErr (pair_value a b i)
high_none a b i ha = rw ha refl

low_none : (a b h i : ℕ) → hex_digit_value a ≡ Some h → hex_digit_value b ≡ None → IsErr (pair_value a b i)
low_none a b h i ha hb = rw (ha, hb) refl

pair_none : (a b h l i : ℕ) → Reads a h → Reads b l → (16 ≤ h) ⊎ (16 ≤ l) → IsErr (pair_value a b i)
pair_none a b h l i rh rl (inl high) = high_none a b i (rh.1 high)
pair_none a b h l i rh rl (inr low) = elim (cases_lt h 16) [
  | inl few ↦ low_none a b h i (rh.0 few) (rl.1 low)
  | inr many ↦ high_none a b i (rh.1 many)
]

-- a pair that spells nothing
refused : (s out : List ℕ) (i greatest : ℕ) → 2 * i + 1 < length s
    → IsErr (pair_value (slice_index s (2 * i)) (slice_index s (2 * i + 1)) (2 * i))
    → SoFar s out i greatest → IsErr (decode_pairs 0 s)
refused s out i greatest fits bad sofar = elim (cases_lt greatest 16) [
  | inl few ↦ let e = err_of _ bad in is_err _ e.0 (decode_err s out i e.0 fits e.1 (sofar.0 few))
  | inr many ↦ sofar.1 many
]

-- what is greatest once a pair is read
abbrev pub IsGreatest : ℕ → ℕ → ℕ → ℕ → Type 0
IsGreatest greatest a b c = (a ≤ greatest) × (b ≤ greatest) × (c ≤ greatest) × (16 ≤ greatest → (16 ≤ a) ⊎ ((16 ≤ b) ⊎ (16 ≤ c)))

below_both : (a b n : ℕ) → a < n → b < n → max a b < n
below_both a b n ha hb = grind (arith)

pub max_is : (a b m : ℕ) → m ≡ ord_max nat_cmp a b → m ≡ max a b
max_is a b m is = grind (arith)

pub greatest_of : (a b c one both : ℕ) → one ≡ max a b → both ≡ max one c → IsGreatest both a b c
greatest_of a b c one both is1 is2 =
    let a1 : a ≤ one = rw is1 (le-max_left a b) in
    let b1 : b ≤ one = rw is1 (le-max_right a b) in
    let one2 : one ≤ both = rw is2 (le-max_left one c) in
    let c2 : c ≤ both = rw is2 (le-max_right one c) in (
      omega (arith, a1, one2),
      omega (arith, b1, one2),
      c2,
      λ many. elim (cases_lt a 16) [
        | inr here ↦ inl here
        | inl a_few ↦ inr (elim (cases_lt b 16) [
          | inr here ↦ inl here
          | inl b_few ↦ inr (elim (cases_lt c 16) [
            | inr here ↦ here
            | inl c_few ↦
                let few1 : one < 16 = rw is1 (below_both a b 16 a_few b_few) in
                let few2 : both < 16 = rw is2 (below_both one c 16 few1 c_few) in
                absurd (omega (arith, few2, many))
          ])
        ])
      ],
    )

-- one byte more is decoded, or found not to be one
pub step : (s out : List ℕ) (i high low before after : ℕ) → 2 * i + 1 < length s → i < length out
    → Reads (slice_index s (2 * i)) high → Reads (slice_index s (2 * i + 1)) low
    → IsGreatest after before high low
    → SoFar s out i before → SoFar s (slice_set out i (high % 16 * 16 + low % 16)) (i + 1) after
step s out i high low before after fits room rh rl most sofar = (
  (λ few.
      let h : high < 16 = omega (arith, most.1, few) in
      let l : low < 16 = omega (arith, most.2, few) in
      let value : high % 16 * 16 + low % 16 ≡ high * 16 + low = omega (arith, h, l) in
      decode_step s out i (high % 16 * 16 + low % 16) fits room
      (pair_read (slice_index s (2 * i)) (slice_index s (2 * i + 1)) high low (2 * i) (rh.0 h) (rl.0 l) ∙ ap Ok (sym value))
      (sofar.0 (omega (arith, most.0, few)))),
  (λ many. elim (most.3 many) [
    | inl earlier ↦ sofar.1 earlier
    | inr now ↦ refused s out i before fits (pair_none (slice_index s (2 * i)) (slice_index s (2 * i + 1)) high low (2 * i) rh rl now) sofar
  ]),
)

pub whole_pairs : (s : List ℕ) → length s % 2 ≡ 0 → decode_of s ≡ decode_pairs 0 s
whole_pairs s even = grind (arith)
