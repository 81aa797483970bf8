-- Fees in satoshi, sizes in virtual bytes, and feerates in satoshi per 1,000 virtual bytes.
use Rattle.std.specs.Prelude.{ℕ, ◌+◌, ◌*◌, ◌/◌, nat_lt, ◌==◌, ◌&&◌, if◌then◌else◌}
use Rattle.gate_standard.specs.declared.amounts.Feerate.{Feerate}
use Rattle.gate_standard.specs.declared.amounts.Rounding.{Rounding}
use Rattle.gate_standard.specs.declared.amounts.Rounding.TheVariants.{Down, Up}

-- rounded down, and 1 if that is 0 and both are positive
unfoldable pub rounded_down : ℕ → ℕ → ℕ
rounded_down rate size = if (rate * size / 1000 == 0) && (nat_lt 0 rate && nat_lt 0 size) then 1 else rate * size / 1000

-- rounded up
unfoldable pub rounded_up : ℕ → ℕ → ℕ
rounded_up rate size = (rate * size + 999) / 1000

abbrev pub fee_by : Rounding → ℕ → ℕ → ℕ
fee_by Down rate size = rounded_down rate size
fee_by Up rate size = rounded_up rate size

-- the fee of a size at a feerate
unfoldable pub required_fee : Feerate → ℕ → ℕ
required_fee rate size = fee_by rate.rounding rate.rate size

abbrev pub down : ℕ → Feerate
down rate = record { rate = rate; rounding = Down }

abbrev pub up : ℕ → Feerate
up rate = record { rate = rate; rounding = Up }

-- the feerate at which a size pays a fee, rounded down
unfoldable pub feerate : ℕ → ℕ → ℕ
feerate fee size = fee * 1000 / size
