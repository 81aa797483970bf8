-- Numbers of workers.
use Rattle.std.specs.Prelude.{ℕ, nat_le, ◌&&◌, if◌then◌else◌, Option, Some, None}

-- n workers, if n is from 1 to 64
abbrev pub workers_of : ℕ → Option ℕ
workers_of n = if nat_le 1 n && nat_le n 64 then Some n else None
