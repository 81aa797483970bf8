-- The relative locks of a transaction's inputs (BIP 68).
use Rattle.std.specs.Prelude.{ℕ, ℤ, ◌+◌, ◌-◌, ◌*◌, ◌==◌, ◌||◌, nat_le, not, bit_and, Bool, false, List, zip, Option, Some, None, unwrap_or, if◌then◌else◌}
use Rattle.std.specs.Int.{w32, cast_unsigned}
use Rattle.std.specs.List.{list_all}
use Rattle.gate_tx.specs.Tx.{Tx}
use Rattle.gate_chain.specs.History.{History}
use Rattle.gate_chain.specs.Times.{tip_of, mtp_of}

-- a version from 2 on, read as unsigned, has relative locks
abbrev pub has_relative_locks : ℤ → Bool
has_relative_locks version = nat_le 2 (cast_unsigned w32 version)

-- bit 31 of a sequence: there is no lock
abbrev pub is_disabled : ℕ → Bool
is_disabled sequence = not (bit_and sequence 0x8000_0000 == 0)

-- bit 22 of a sequence: the lock is by time, else by height
abbrev pub is_by_time : ℕ → Bool
is_by_time sequence = not (bit_and sequence 0x40_0000 == 0)

-- the length of a lock, in blocks or in units of 512 seconds
abbrev pub span_of : ℕ → ℕ
span_of sequence = bit_and sequence 0xffff

-- the median time past of a height from the first one up to the tip
abbrev pub median_at : History → ℕ → ℕ
median_at chain height = unwrap_or (mtp_of chain height) 0

-- the next block is at least the length of the lock above the coin's
abbrev pub is_height_lock_met : History → ℕ → ℕ → Bool
is_height_lock_met chain span height = nat_le (height + span) (tip_of chain + 1)

-- a second is at least so many seconds after another one, if that is known
abbrev pub is_later_by : ℕ → Option ℕ → ℕ → Bool
is_later_by wait None now = false
is_later_by wait (Some start) now = nat_le (start + wait) now

-- the tip's median time past is at least the length of the lock after that of the block before the coin's; where the
-- chain doesn't know that one, the lock is not met
abbrev pub is_time_lock_met : History → ℕ → ℕ → Bool
is_time_lock_met chain span height = is_later_by (512 * span) (mtp_of chain (height - 1)) (median_at chain (tip_of chain))

-- the lock of an input whose coin has this height
unfoldable pub is_lock_met_by : History → ℕ → ℕ → Bool
is_lock_met_by chain sequence height =
    is_disabled sequence
    || (if is_by_time sequence then is_time_lock_met chain (span_of sequence) height else is_height_lock_met chain (span_of sequence) height)

-- the locks of all inputs, with the height of the coin of each
unfoldable pub sequence_locks_met_by : Tx → List ℕ → History → Bool
sequence_locks_met_by tx heights chain =
    not (has_relative_locks tx.version) || list_all (λ p. is_lock_met_by chain p.0.sequence p.1) (zip tx.inputs heights)
