-- What chunks pay beyond a feerate, within the bounds of their numbers.
use Rattle.std.proofs.Common.{ℕ, ◌*◌, ◌^◌, ◌<◌, ◌≤◌, List, length, arith}
use Rattle.std.specs.Prelude.{All}
use Rattle.std.proofs.Math.Nat.{mul-le-mul_left}
use Rattle.std.proofs.lemmas.List.Elements.{All-weaker}
use Rattle.std.proofs.lemmas.List.Sums.{sum_by-le}
use Rattle.gate_diagram.specs.declared.price.Price.{Price}
use Rattle.gate_diagram.specs.Diagram.{IsSmall, beyond, surplus}

-- the most that one chunk pays beyond a feerate
abbrev most : ℕ
most = 84_000_000_000_000_000_000_000

beyond_small : (rate chunk : Price) → IsSmall rate → IsSmall chunk → beyond rate chunk ≤ most
beyond_small rate chunk r s =
    omega (arith, mul-le-mul_left rate.vsize s.fee, mul-le-mul_left 4_200_000_000_000_000 r.vsize)

pub surplus_fits : (rate : Price) (chunks : List Price) → IsSmall rate → All IsSmall chunks → length chunks ≤ 1000 → surplus rate chunks < 2 ^ 128
surplus_fits rate chunks r all few =
    let each = All-weaker IsSmall (λ (c : Price). beyond rate c ≤ most) (λ c s. beyond_small rate c r s) chunks all in
    let sum : surplus rate chunks ≤ length chunks * most = sum_by-le (beyond rate) most chunks each in
    omega (arith, sum, few)
