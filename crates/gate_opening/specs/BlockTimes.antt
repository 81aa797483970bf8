-- Block times in even steps.
use Rattle.std.specs.Prelude.{ℕ, zero, suc, ◌+◌, ◌^◌, nat_le, Bool, List, [], ◌∷◌}
use Rattle.std.specs.List.{list_any}

-- this many times, by the first of them and the step to each next
abbrev pub times_from : ℕ → ℕ → ℕ → List ℕ
times_from zero first step = []
times_from (suc count) first step = first ∷ times_from count (first + step) step

-- some time doesn't fit 32 bits
abbrev pub some_too_great : List ℕ → Bool
some_too_great times = list_any (nat_le (2 ^ 32)) times
