use Rattle.std.proofs.Common.{◌≡◌, ◌≤◌, ◌++◌, drop, length}
use Rattle.gate_package.specs.Coins.{coins_beside}
use Rattle.gate_figures.proofs.coins.coins_beside.Given as goal

abbrev pub invariant-loop-input : goal.invariant-loop-input
invariant-loop-input g l =
    (l.coins.items ++ coins_beside l.chain l.others l.pool.entries (drop l.input-index l.inputs) ≡ coins_beside l.chain l.others l.pool.entries l.inputs)
    × (length l.coins.items ≤ l.input-index)
