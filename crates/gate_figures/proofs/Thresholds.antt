-- Tests of a fee that begin to pass at a number.
use Rattle.std.proofs.Common.{◌≡◌, ℕ, ◌+◌, ◌*◌, ◌<◌, ◌≤◌, Bool, true, false, not, ◌&&◌, max, inl, inr, refl, sym, ap, ◌∙◌, subst, arith}
use Rattle.std.specs.Prelude.{◌-◌, ◌/◌, nat_le, nat_lt}
use Rattle.std.specs.Int.{div_ceil}
use Rattle.std.proofs.lemmas.Bool.{and_from, and_left, and_right, cases_lt, le-leb, le-ltb, leb-false, leb-true, lt-leb, lt-ltb, ltb-false, ltb-true}
use Rattle.std.proofs.lemmas.Grind.{div_ceil_times}
use Rattle.std.proofs.Math.Nat.{div-mul-le_self, lt-div-mul-add, mul-le-mul_left}

-- ---- what passes from a number on, and what passes below it

pub from_number : (least fee : ℕ) (b : Bool) → (least ≤ fee → b ≡ true) → (fee < least → b ≡ false) → b ≡ nat_le least fee
from_number least fee b at under = go (nat_le least fee) refl
  where
    go : (t : Bool) → nat_le least fee ≡ t → b ≡ nat_le least fee
    go true e = at (leb-true least fee e) ∙ sym e
    go false e = under (leb-false least fee e) ∙ sym e

pub below_number : (least fee : ℕ) (b : Bool) → (fee < least → b ≡ true) → (least ≤ fee → b ≡ false) → b ≡ nat_lt fee least
below_number least fee b under at = go (nat_lt fee least) refl
  where
    go : (t : Bool) → nat_lt fee least ≡ t → b ≡ nat_lt fee least
    go true e = under (ltb-true fee least e) ∙ sym e
    go false e = at (ltb-false fee least e) ∙ sym e

pub not_below : (least fee : ℕ) → not (nat_lt fee least) ≡ nat_le least fee
not_below least fee = from_number least fee _ (λ h. ap not (le-ltb fee least h)) (λ h. ap not (lt-ltb fee least h))

-- both of two tests
pub both_from : (a b fee : ℕ) → (nat_le a fee && nat_le b fee) ≡ nat_le (max a b) fee
both_from a b fee =
    from_number (max a b) fee _ (λ h. let x : a ≤ fee = omega arith in let y : b ≤ fee = omega arith in and_from _ _ (le-leb a fee x) (le-leb b fee y))
    (λ h. elim (cases_lt fee a) [
      | inl l ↦ and_left _ _ (lt-leb a fee l)
      | inr g ↦ (let y : fee < b = omega arith in and_right _ _ (lt-leb b fee y))
    ])

pub neither_below : (a b fee : ℕ) → (not (nat_lt fee a) && not (nat_lt fee b)) ≡ nat_le (max a b) fee
neither_below a b fee = ap (λ x. x && not (nat_lt fee b)) (not_below a fee) ∙ ap (λ x. nat_le a fee && x) (not_below b fee) ∙ both_from a b fee

-- a fee that pays one amount, and with the rest another, pays both
pub pays_both : (paid own fee : ℕ) → (not (nat_lt fee paid) && not (nat_lt (fee - paid) own)) ≡ nat_le (paid + own) fee
pays_both paid own fee =
    from_number (paid + own) fee _
    (λ h. let x : paid ≤ fee = omega arith in let y : own ≤ fee - paid = omega arith in and_from _ _ (ap not (le-ltb fee paid x)) (ap not (le-ltb (fee - paid) own y)))
    (λ h. elim (cases_lt fee paid) [
      | inl l ↦ and_left _ _ (ap not (lt-ltb fee paid l))
      | inr g ↦ (let y : fee - paid < own = omega arith in and_right _ _ (ap not (lt-ltb (fee - paid) own y)))
    ])

-- ---- feerates

times_more : (q n : ℕ) → (q + 1) * n ≡ q * n + n
times_more q n = omega arith

times_up : (n a b : ℕ) → a ≤ b → a * n ≤ b * n
times_up n a b h = omega (arith, mul-le-mul_left n h)

-- a quotient is at most a number exactly if the dividend is below the next multiple
quotient_at_most : (n size rate : ℕ) → 0 < size → nat_le (n / size) rate ≡ nat_lt n ((rate + 1) * size)
quotient_at_most n size rate some = go (n / size) (div-mul-le_self n size) (lt-div-mul-add some)
  where
    go : (q : ℕ) → q * size ≤ n → n < q * size + size → nat_le q rate ≡ nat_lt n ((rate + 1) * size)
    go q lower upper =
        below_number ((rate + 1) * size) n (nat_le q rate)
        (λ h. elim (cases_lt rate q) [
          | inl l ↦ (let up : (rate + 1) * size ≤ q * size = times_up size (rate + 1) q (omega arith) in absurd (omega arith))
          | inr g ↦ le-leb q rate g
        ])
        (λ h. elim (cases_lt rate q) [
          | inl l ↦ lt-leb q rate l
          | inr g ↦ (let up : q * size ≤ rate * size = times_up size q rate g in let more = times_more rate size in absurd (omega arith))
        ])

-- the same in thousands, rounded up
in_thousands : (fee total least : ℕ) → total ≤ least * 1000 → least * 1000 < total + 1000 → nat_lt (fee * 1000) total ≡ nat_lt fee least
in_thousands fee total least a b =
    below_number least fee (nat_lt (fee * 1000) total) (λ h. let x : fee * 1000 < total = omega arith in lt-ltb (fee * 1000) total x)
    (λ h. let x : total ≤ fee * 1000 = omega arith in le-ltb (fee * 1000) total x)

-- the fees whose feerate is at most this are those below the least that is above
pub feerate_at_most : (fee vsize rate least : ℕ) → 0 < vsize → (rate + 1) * vsize ≤ least * 1000 → least * 1000 < (rate + 1) * vsize + 1000
    → nat_le (fee * 1000 / vsize) rate ≡ nat_lt fee least
feerate_at_most fee vsize rate least some a b = quotient_at_most (fee * 1000) vsize rate some ∙ in_thousands fee ((rate + 1) * vsize) least a b

-- the same of a least that is divided as code does it
pub least_above : (fee vsize rate size least : ℕ) → 0 < vsize → size ≡ vsize → least ≡ div_ceil ((rate + 1) * size) 1000 → nat_le (fee * 1000 / vsize) rate ≡ nat_lt fee least
least_above fee vsize rate size least some same is =
    let bounds = div_ceil_times ((rate + 1) * size) 1000 (omega arith) in
    feerate_at_most fee vsize rate least some
    (subst (λ (s : ℕ). (rate + 1) * s ≤ least * 1000) same (subst (λ (l : ℕ). (rate + 1) * size ≤ l * 1000) (sym is) bounds.0))
    (subst (λ (s : ℕ). least * 1000 < (rate + 1) * s + 1000) same (subst (λ (l : ℕ). l * 1000 < (rate + 1) * size + 1000) (sym is) bounds.1))
