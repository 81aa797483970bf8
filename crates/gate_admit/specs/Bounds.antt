-- The fee and the size that a grant has, so that an entry can hold them.
use Rattle.std.specs.Prelude.{ℕ, ◌≤◌, Result, Ok, Err}
use Rattle.gate_tx.specs.Money.{max_money}
use Rattle.gate_rules.specs.declared.Denial.{Denial}
use Rattle.gate_admit.specs.declared.grant.Grant.{Grant}

-- the fee is an amount that there can be, and the size is positive and at most 10,000,000 virtual bytes
pub record FitsEntry (fee vsize : ℕ) : Type 0 where
  pub fee_in_range : fee ≤ max_money
  pub some : 1 ≤ vsize
  pub few : vsize ≤ 10000000

abbrev pub FitsAnEntry : Result Grant Denial → Type 0
FitsAnEntry (Ok grant) = FitsEntry grant.fee grant.vsize
FitsAnEntry (Err denial) = Unit {0}
