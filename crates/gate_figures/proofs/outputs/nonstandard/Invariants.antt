use Rattle.std.proofs.Common.{◌≡◌, drop}
use Rattle.gate_figures.specs.Figures.{nonstandard}
use Rattle.gate_figures.proofs.outputs.nonstandard.Given as goal

abbrev pub invariant-loop-output : goal.invariant-loop-output
invariant-loop-output l = nonstandard l.standards 0 l.outputs ≡ nonstandard l.standards l.output (drop l.output l.outputs)
