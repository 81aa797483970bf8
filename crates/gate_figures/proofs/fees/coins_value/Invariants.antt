use Rattle.std.proofs.Common.{◌≡◌, ◌≤◌, ◌*◌, ◌^◌, take}
use Rattle.std.specs.Prelude.{sum_by}
use Rattle.gate_tx.specs.declared.Coin.{Coin}
use Rattle.gate_tx.specs.Money.{amount_or_zero}
use Rattle.gate_figures.proofs.fees.coins_value.Given as goal

abbrev pub invariant-loop-coin : goal.invariant-loop-coin
invariant-loop-coin l =
    (l.sum ≡ sum_by (λ (c : Coin). amount_or_zero c.value) (take l.coin-index l.coins)) × (l.sum ≤ l.coin-index * 2 ^ 63)
