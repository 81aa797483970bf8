use Rattle.std.proofs.Common.{◌≡◌, ◌≤◌, ◌+◌, ◌++◌, length, drop}
use Rattle.std.specs.Prelude.{All}
use Rattle.gate_tx.specs.declared.Coin.{Coin}
use Rattle.gate_chain.specs.Times.{tip_of}
use Rattle.gate_package.specs.Coins.{coins_beside, misses_coin_beside}
use Rattle.gate_package.proofs.coins.find_coins.Given as goal

abbrev pub invariant-loop-input : goal.invariant-loop-input
invariant-loop-input g l =
    (misses_coin_beside l.under.chain.now l.others l.pool.entries l.inputs ≡ misses_coin_beside l.under.chain.now l.others l.pool.entries (drop l.input-index l.inputs))
    × (l.coins.items ++ coins_beside l.under.chain.now l.others l.pool.entries (drop l.input-index l.inputs) ≡ coins_beside l.under.chain.now l.others l.pool.entries l.inputs)
    × (length l.coins.items ≡ l.input-index)
    × All (λ (c : Coin). c.height ≤ tip_of l.under.chain.now + 1) l.coins.items
