-- The laws of numbers and counts.
use Rattle.std.proofs.Common.{◌≡◌, ℕ, ◌^◌, ◌<◌, ltb, cond, eqb, List, [], ◌∷◌, ◌++◌, Result, Ok, Err, refl, sym, ap, ◌∙◌, arith, inl, inr}
use Rattle.std.specs.Int.{w32, w64}
use Rattle.std.proofs.lemmas.Bool.{lt-ltb, le-ltb, cases_lt as split}
use Rattle.std.proofs.lemmas.List.{append-nil}
use Rattle.gate_bytes.specs.declared.fault.ByteFault.{ByteFault}
use Rattle.gate_bytes.specs.declared.fault.ByteFault.TheVariants.{Short}
use Rattle.gate_bytes.specs.Compact.{compact}
use Rattle.gate_bytes.specs.Reading.{number_at}
use Rattle.gate_bytes.specs.Laws.{IsWidth, NumbersAreRead, SignedNumbersAreRead, CountsAreRead, CountsStandApart}
use Rattle.gate_bytes.proofs.Numbers.{ok_is, IsWide, wide1, wide2, wide4, wide8, number_takes, number_again}
use Rattle.gate_bytes.proofs.Signed.{signed4, signed8, signed_takes, signed_again}
use Rattle.gate_bytes.proofs.Counts.{compact_takes, compact_again}

wide_of : (n : ℕ) → IsWidth n → IsWide n
wide_of n is =
    elim is [
      | inl one ↦ rw one wide1
      | inr more ↦ elim more [
        | inl two ↦ rw two wide2
        | inr most ↦ elim most [
          | inl four ↦ rw four wide4
          | inr eight ↦ rw eight wide8
        ]
      ]
    ]

pub numbers_are_read : NumbersAreRead
numbers_are_read n x bytes rest width fits = (
  λ e. let t = number_takes n (wide_of n width) bytes (x, rest) fits e in (t.1, t.0.parts),
  λ h. rw h.1 (number_again n x rest h.0),
)

pub signed_numbers_are_read : SignedNumbersAreRead
signed_numbers_are_read z bytes rest fits = (
  (λ e. let t = signed_takes w32 4 signed4 bytes (z, rest) fits e in (t.1, t.0.parts), λ h. rw h.1 (signed_again w32 4 signed4 z rest h.0)),
  (λ e. let t = signed_takes w64 8 signed8 bytes (z, rest) fits e in (t.1, t.0.parts), λ h. rw h.1 (signed_again w64 8 signed8 z rest h.0)),
)

pub counts_are_read : CountsAreRead
counts_are_read n bytes rest fits = (
  λ e. let t = compact_takes bytes (n, rest) fits e in (t.count, t.takes.parts),
  λ h. rw h.1 (compact_again n rest h.0),
)

-- the number behind a mark, whatever its form and size
any_at : List ℕ → Result (ℕ × List ℕ) ByteFault
any_at [] = Err Short
any_at (mark ∷ rest) =
    cond (ltb mark 253) (Ok (mark, rest)) (cond (eqb mark 253) (number_at 2 rest) (cond (eqb mark 254) (number_at 4 rest) (number_at 8 rest)))

any_again : (n : ℕ) (rest : List ℕ) → n < 2 ^ 64 → any_at (compact n ++ rest) ≡ Ok (n, rest)
unfolding any_at
any_again n rest fits =
    elim (split n 253) [
      | inl lt ↦ rw (lt-ltb n 253 lt) (rw (lt-ltb n 253 lt) refl)
      | inr one ↦ elim (split n 65536) [
        | inl lt ↦ rw (le-ltb n 253 one, lt-ltb n 65536 lt) (number_again 2 n rest (omega arith))
        | inr two ↦ elim (split n 4294967296) [
          | inl lt ↦ rw (le-ltb n 253 one, le-ltb n 65536 two, lt-ltb n 4294967296 lt) (number_again 4 n rest (omega arith))
          | inr four ↦ rw (le-ltb n 253 one, le-ltb n 65536 two, le-ltb n 4294967296 four) (number_again 8 n rest (omega arith))
        ]
      ]
    ]

pub counts_stand_apart : CountsStandApart
counts_stand_apart m n rest small large e =
    let same : (m, rest) ≡ (n, []) = ok_is (m, rest) (n, []) (sym (any_again m rest small) ∙ ap any_at (e ∙ sym (append-nil (compact n))) ∙ any_again n [] large) in
    (ap (λ (p : ℕ × List ℕ). p.0) same, ap (λ (p : ℕ × List ℕ). p.1) same)
