use Rattle.std.proofs.Common.{◌≡◌, drop}
use Rattle.gate_figures.specs.Figures.{young}
use Rattle.gate_figures.proofs.coins.young.Given as goal

abbrev pub invariant-loop-input : goal.invariant-loop-input
invariant-loop-input g l = young l.chain l.pool.entries 0 l.inputs ≡ young l.chain l.pool.entries l.input (drop l.input l.inputs)
