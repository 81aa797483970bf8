-- Amounts of satoshi.
use Rattle.std.specs.Prelude.{ℕ, nat_le, Bool, false, ℤ, pos, negsuc}

-- no amount is above this: 21 million bitcoin
abbrev pub max_money : ℕ
max_money = 2_100_000_000_000_000

-- an amount from 0 to the most that there can be
abbrev pub is_money : ℤ → Bool
is_money (pos amount) = nat_le amount max_money
is_money (negsuc n) = false

-- a value as an amount, 0 if it is negative
abbrev pub amount_or_zero : ℤ → ℕ
amount_or_zero (pos n) = n
amount_or_zero (negsuc n) = 0
