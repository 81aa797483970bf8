use Rattle.std.proofs.Common.{◌≡◌, drop}
use Rattle.gate_figures.specs.Figures.{data_past}
use Rattle.gate_figures.proofs.outputs.data_past.Given as goal

abbrev pub invariant-loop-output : goal.invariant-loop-output
invariant-loop-output l = data_past l.total 0 l.outputs ≡ data_past l.left l.output (drop l.output l.outputs)
