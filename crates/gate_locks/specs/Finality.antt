-- When a transaction is final: its locktime is 0 or below its threshold, or each of its sequences waives the locktime.
use Rattle.std.specs.Prelude.{ℕ, ◌==◌, ◌||◌, nat_lt, Bool, if◌then◌else◌}
use Rattle.std.specs.List.{list_all}
use Rattle.gate_tx.specs.Tx.{Tx}

-- a locktime below this is a height, and from it on a time
abbrev pub first_time : ℕ
first_time = 500000000

-- what a locktime is compared with: the height of the next block, or the median time past of the tip (BIP 113)
abbrev pub threshold_of : ℕ → ℕ → ℕ → ℕ
threshold_of locktime next_height mtp = if nat_lt locktime first_time then next_height else mtp

unfoldable pub is_final_at : Tx → ℕ → ℕ → Bool
is_final_at tx next_height mtp =
    (tx.locktime == 0)
    || (nat_lt tx.locktime (threshold_of tx.locktime next_height mtp)
    || list_all (λ i. i.sequence == 0xffff_ffff) tx.inputs)
