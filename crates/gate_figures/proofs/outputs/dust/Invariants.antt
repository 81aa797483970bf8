use Rattle.std.proofs.Common.{◌≡◌, drop}
use Rattle.gate_figures.specs.Figures.{dust}
use Rattle.gate_figures.proofs.outputs.dust.Given as goal

abbrev pub invariant-loop-output : goal.invariant-loop-output
invariant-loop-output l = dust l.rate 0 l.outputs ≡ dust l.rate l.output (drop l.output l.outputs)
