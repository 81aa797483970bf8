-- A rate is rounded down.
use Rattle.std.proofs.Common.{◌≡◌, ℕ, ◌+◌, ◌*◌, ◌/◌, ◌<◌, subst, sym, arith}
use Rattle.std.proofs.Math.Nat.{div-mul-le_self, lt-div-mul-add}
use Rattle.gate_standard.specs.Amounts.{feerate}
use Rattle.gate_standard.specs.Laws.{RatesAreRoundedDown}

next : (q size : ℕ) → (q + 1) * size ≡ q * size + size
next q size = omega arith

pub rates_are_rounded_down : RatesAreRoundedDown
unfolding feerate
rates_are_rounded_down fee size some =
    let above : fee * 1000 < fee * 1000 / size * size + size = lt-div-mul-add some in
    (div-mul-le_self (fee * 1000) size, subst (λ n. fee * 1000 < n) (sym (next (fee * 1000 / size) size)) above)
