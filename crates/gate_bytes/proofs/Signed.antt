-- Numbers in two's complement: what is read is what was written, and no other bytes read as it.
use Rattle.std.proofs.Common.{◌≡◌, ℕ, ℤ, ◌^◌, ◌<◌, ltb, List, ◌++◌, length, drop, Result, Ok, ap, subst, ◌∙◌, arith, refl, SFits}
use Rattle.std.specs.Int.{Width, w32, w64, cast_signed, cast_unsigned}
use Rattle.std.proofs.Math.Facts.{sfits_to_z, Fits-bits}
use Rattle.std.proofs.lemmas.Int.{ints, to_z-of_z, of_z-to_z}
use Rattle.byteorder.specs.Endian.{little_number, little_bytes}
use Rattle.gate_bytes.specs.declared.fault.ByteFault.{ByteFault}
use Rattle.gate_bytes.specs.declared.fault.ByteFault.TheVariants.{Short}
use Rattle.gate_bytes.specs.Reading.{IsBytes, number_at, signed_at}
use Rattle.gate_bytes.proofs.Numbers.{guard_ok, ok_is, Takes, IsWide, wide4, wide8, number_takes, number_again}

abbrev done : {A : Type 0} → A → Result A ByteFault
done x = Ok x

pub record IsSigned (w : Width) (n : ℕ) : Type 0 where
  pub wide : IsWide n
  pub back : (m : ℕ) → m < 256 ^ n → cast_unsigned w (cast_signed w m) ≡ m
  pub fits : (m : ℕ) → m < 256 ^ n → SFits w (cast_signed w m)
  pub below : (z : ℤ) → SFits w z → cast_unsigned w z < 256 ^ n

pub signed4 : IsSigned w32 4
signed4 = record {
  wide = wide4;
  back = λ m h. of_z-to_z w32 m h;
  fits = λ m h. sfits_to_z {w = w32} {n = m} (Fits-bits 32 tt h);
  below = λ z h. omega (arith, ints);
}

pub signed8 : IsSigned w64 8
signed8 = record {
  wide = wide8;
  back = λ m h. of_z-to_z w64 m h;
  fits = λ m h. sfits_to_z {w = w64} {n = m} (Fits-bits 64 tt h);
  below = λ z h. omega (arith, ints);
}

pub signed_takes : (w : Width) (n : ℕ) (is : IsSigned w n) (bytes : List ℕ) (x : ℤ × List ℕ) → IsBytes bytes → signed_at w n bytes ≡ Ok x → Takes bytes (little_bytes n (cast_unsigned w x.0)) x.1 × SFits w x.0
signed_takes w n is bytes x fits e =
    let g = guard_ok (ltb (length bytes) n) Short (Ok (cast_signed w (little_number n bytes), drop n bytes)) x e in
    let plain : number_at n bytes ≡ Ok (little_number n bytes, drop n bytes) = rw g.0 refl in
    let t = number_takes n is.wide bytes (little_number n bytes, drop n bytes) fits plain in
    subst (λ (y : ℤ × List ℕ). Takes bytes (little_bytes n (cast_unsigned w y.0)) y.1 × SFits w y.0) (ok_is (cast_signed w (little_number n bytes), drop n bytes) x g.1) (rw (is.back (little_number n bytes) t.1) t.0, is.fits (little_number n bytes) t.1)

pub signed_again : (w : Width) (n : ℕ) (is : IsSigned w n) (z : ℤ) (rest : List ℕ) → SFits w z → signed_at w n (little_bytes n (cast_unsigned w z) ++ rest) ≡ Ok (z, rest)
signed_again w n is z rest fits =
    let m = cast_unsigned w z in
    let plain = number_again n m rest (is.below z fits) in
    let g = guard_ok (ltb (length (little_bytes n m ++ rest)) n) Short (Ok (little_number n (little_bytes n m ++ rest), drop n (little_bytes n m ++ rest))) (m, rest) plain in
    let same = ok_is (little_number n (little_bytes n m ++ rest), drop n (little_bytes n m ++ rest)) (m, rest) g.1 in
    rw g.0 (ap (λ (p : ℕ × List ℕ). done (cast_signed w p.0, p.1)) same ∙ ap (λ (y : ℤ). done (y, rest)) (to_z-of_z w z fits))
