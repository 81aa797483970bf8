use Rattle.std.proofs.Common.{◌≡◌, drop}
use Rattle.gate_figures.specs.Figures.{locked}
use Rattle.gate_figures.proofs.locks.locked.Given as goal

abbrev pub invariant-loop-input : goal.invariant-loop-input
invariant-loop-input g l = locked l.chain l.pool.entries 0 l.inputs ≡ locked l.chain l.pool.entries l.input (drop l.input l.inputs)
