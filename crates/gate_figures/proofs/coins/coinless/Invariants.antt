use Rattle.std.proofs.Common.{◌≡◌, drop}
use Rattle.gate_figures.specs.Figures.{coinless}
use Rattle.gate_figures.proofs.coins.coinless.Given as goal

abbrev pub invariant-loop-input : goal.invariant-loop-input
invariant-loop-input g l = coinless l.chain l.pool.entries 0 l.inputs ≡ coinless l.chain l.pool.entries l.input (drop l.input l.inputs)
