-- Expiry: how long an entry may stay, in seconds, is the operator's.
use Rattle.std.specs.Prelude.{ℕ, ◌+◌, nat_lt, Bool, List}
use Rattle.gate_pool.specs.Pool.{Admitted}
use Rattle.gate_pool.specs.Family.{without_below}

-- at the second `now`, an entry was admitted longer ago than it may stay
abbrev pub is_stale : ℕ → ℕ → Admitted → Bool
is_stale stay now e = nat_lt (e.time + stay) now

-- the entries that expiry leaves: the stale ones are taken out with all that is below them
abbrev pub expired : ℕ → ℕ → List Admitted → List Admitted
expired stay now entries = without_below (is_stale stay now) entries
