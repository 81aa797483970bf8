use Rattle.std.proofs.Common.{◌≡◌, ◌++◌, take, string_bytes}
use Rattle.gate_try.specs.Trials.{coin_lines}
use Rattle.gate_try.proofs.text.push_coins.Given as goal

abbrev pub invariant-loop-coin : goal.invariant-loop-coin
invariant-loop-coin l = string_bytes l.text ≡ string_bytes l.fn.text ++ coin_lines (take l.coin-index l.coins)
