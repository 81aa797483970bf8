use Rattle.std.proofs.Common.{◌≡◌, ◌≤◌, ◌++◌, drop, length}
use Rattle.gate_admit.specs.Coins.{coins_of}
use Rattle.gate_figures.proofs.coins.coins_of.Given as goal

abbrev pub invariant-loop-input : goal.invariant-loop-input
invariant-loop-input g l =
    (l.coins.items ++ coins_of l.chain l.pool.entries (drop l.input-index l.inputs) ≡ coins_of l.chain l.pool.entries l.inputs)
    × (length l.coins.items ≤ l.input-index)
