use Rattle.std.proofs.Common.{◌≡◌, ◌++◌, take, string_bytes}
use Rattle.gate_try.specs.Trials.{spent_lines}
use Rattle.gate_try.proofs.text.push_spent.Given as goal

abbrev pub invariant-loop-coin : goal.invariant-loop-coin
invariant-loop-coin l = string_bytes l.text ≡ string_bytes l.fn.text ++ spent_lines l.height (take l.coin-index l.coins)
