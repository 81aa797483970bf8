-- Each transaction weighs something, and what signature operations count for is bounded.
use Rattle.std.proofs.Common.{◌≤◌, ◌*◌, ℕ, arith}
use Rattle.std.proofs.Math.Nat.{mul-le-mul_left, mul-le-mul_right}
use Rattle.gate_tx.specs.Sizes.{weight_of}
use Rattle.gate_tx.specs.Tx.{Tx}
use Rattle.gate_tx.proofs.Bounds.{length-stripped}

pub positive : (tx : Tx) → 1 ≤ weight_of tx
unfolding weight_of
positive tx = omega (arith, length-stripped tx)

-- at most 25 bytes for each of a cost of at most 16,000
pub counted : (n cost : ℕ) → n ≤ 25 → cost ≤ 16000 → n * cost ≤ 400000
counted n cost few low =
    let first : n * cost ≤ n * 16000 = mul-le-mul_left n low in
    let second : n * 16000 ≤ 25 * 16000 = mul-le-mul_right 16000 few in
    omega (arith, first, second)
