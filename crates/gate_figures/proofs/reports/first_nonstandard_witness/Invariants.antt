use Rattle.std.proofs.Common.{◌≡◌, drop}
use Rattle.gate_figures.specs.Figures.{nonstandard_witness}
use Rattle.gate_figures.proofs.reports.first_nonstandard_witness.Given as goal

abbrev pub invariant-loop-input : goal.invariant-loop-input
invariant-loop-input l = nonstandard_witness l.anchors 0 l.answers ≡ nonstandard_witness l.anchors l.input (drop l.input l.answers)
