-- Rates, which compare as fractions do: by cross products.
use Rattle.std.specs.Prelude.{◌≡◌, ℕ, ◌*◌, ◌<◌, Bool, refl, ◌==◌, max}
use Rattle.std.specs.declared.cmp.Ordering.{Ordering}
use Rattle.std.specs.declared.cmp.Ordering.TheVariants.{Less, Equal, Greater}
use Rattle.std.specs.Ordering.{nat_cmp, is_eq}
use Rattle.std.specs.Cmp.{IsTotalOrder, IsEquivalence}
use Rattle.std.proofs.Common.{arith, sym, ap, ◌∙◌, subst}
use Rattle.std.proofs.Math.Nat.{mul-lt-mul_of_pos_right, mul_right_comm}
use Rattle.std.proofs.lemmas.Bool.Decides.{nat_tests}
use Rattle.std.proofs.lemmas.Cmp.{ranked, by_ranked, nat_cmp_total, eq_by_cmp_equiv}

-- fees over a size
pub record Fraction : Type 0 where
  pub fees : ℕ
  pub size : ℕ

-- the order of fractions, by cross products; a size of 0 counts as 1
abbrev pub rate_cmp : Fraction → Fraction → Ordering
rate_cmp a b = nat_cmp (a.fees * max b.size 1) (b.fees * max a.size 1)

abbrev pub rate_eq : Fraction → Fraction → Bool
rate_eq a b = (a.fees * max b.size 1) == (b.fees * max a.size 1)

less_cmp : (x y : ℕ) → x < y → nat_cmp x y ≡ Less
less_cmp x y h = grind (arith, nat_tests)

equal_cmp : (x y : ℕ) → x ≡ y → nat_cmp x y ≡ Equal
equal_cmp x y h = grind (arith, nat_tests)

greater_cmp : (x y : ℕ) → y < x → nat_cmp x y ≡ Greater
greater_cmp x y h = grind (arith, nat_tests)

-- two numbers compare as their products with a positive number do
scaled : (x y k : ℕ) → 0 < k → nat_cmp (x * k) (y * k) ≡ nat_cmp x y
scaled x y k h = by_ranked (x < y) (x ≡ y) (y < x) (nat_cmp x y) (ranked x y (nat_cmp x y) refl)
    (λ e l. less_cmp (x * k) (y * k) (mul-lt-mul_of_pos_right l h) ∙ sym e)
    (λ e l. equal_cmp (x * k) (y * k) (ap (λ z. z * k) l) ∙ sym e)
    (λ e l. greater_cmp (x * k) (y * k) (mul-lt-mul_of_pos_right l h) ∙ sym e)

-- the cross products of a/p and b/q compare alike if both are multiplied by r
over : (a p b q r : ℕ) → 0 < r → nat_cmp (a * r * q) (b * r * p) ≡ nat_cmp (a * q) (b * p)
over a p b q r h = ap (λ z. nat_cmp z (b * r * p)) (mul_right_comm a r q) ∙ ap (λ z. nat_cmp (a * q * r) z) (mul_right_comm b r p) ∙ scaled (a * q) (b * p) r h

left : (b q c r p : ℕ) → 0 < p → nat_cmp (b * r * p) (c * p * q) ≡ nat_cmp (b * r) (c * q)
left b q c r p h = ap (λ z. nat_cmp (b * r * p) z) (mul_right_comm c p q) ∙ scaled (b * r) (c * q) p h

positive : (n : ℕ) → 0 < max n 1
positive n = omega arith

pub rate_cmp_total : IsTotalOrder rate_cmp
rate_cmp_total = record {
  antisymm = λ x y. nat_cmp_total.antisymm (x.fees * max y.size 1) (y.fees * max x.size 1);
  trans = λ x y z h k.
      let p = max x.size 1 in let q = max y.size 1 in let r = max z.size 1 in
      sym (scaled (x.fees * r) (z.fees * p) q (positive y.size))
      ∙ nat_cmp_total.trans (x.fees * r * q) (y.fees * r * p) (z.fees * p * q) (over x.fees p y.fees q r (positive z.size) ∙ h) (left y.fees q z.fees r p (positive x.size) ∙ k);
  congr = λ x y z h.
      let p = max x.size 1 in let q = max y.size 1 in let r = max z.size 1 in
      sym (scaled (x.fees * r) (z.fees * p) q (positive y.size))
      ∙ nat_cmp_total.congr (x.fees * r * q) (y.fees * r * p) (z.fees * p * q) (over x.fees p y.fees q r (positive z.size) ∙ h)
      ∙ left y.fees q z.fees r p (positive x.size);
}

same : (x y : ℕ) → (x == y) ≡ is_eq (nat_cmp x y)
same x y = grind (arith, nat_tests)

pub rate_eq_is : (x y : Fraction) → rate_eq x y ≡ is_eq (rate_cmp x y)
rate_eq_is x y = same (x.fees * max y.size 1) (y.fees * max x.size 1)

pub rate_eq_equiv : IsEquivalence rate_eq
rate_eq_equiv = subst IsEquivalence (λ i x y. sym (rate_eq_is x y) i) (eq_by_cmp_equiv rate_cmp_total)
