use Rattle.std.proofs.Common.{◌≡◌, drop}
use Rattle.gate_figures.specs.Figures.{dust_paying}
use Rattle.gate_figures.proofs.outputs.dust_paying.Given as goal

abbrev pub invariant-loop-output : goal.invariant-loop-output
invariant-loop-output l = dust_paying l.rate l.fee 0 l.outputs ≡ dust_paying l.rate l.fee l.output (drop l.output l.outputs)
