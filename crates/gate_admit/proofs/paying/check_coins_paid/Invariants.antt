use Rattle.std.proofs.Common.{◌≡◌, ◌≤◌, ◌+◌, drop}
use Rattle.gate_tx.specs.Money.{max_money}
use Rattle.gate_bytes.specs.Order.{first_failing}
use Rattle.gate_admit.specs.Rules.{coin_value_rules, coins_value}
use Rattle.gate_admit.proofs.paying.check_coins_paid.Given as goal

abbrev pub invariant-loop-coin : goal.invariant-loop-coin
invariant-loop-coin l =
    (l.sum ≤ max_money)
    × (l.sum + coins_value (drop l.coin-index l.coins) ≡ coins_value l.coins)
    × (first_failing (coin_value_rules l.next_height 0 l.coins) ≡ first_failing (coin_value_rules l.next_height l.sum (drop l.coin-index l.coins)))
