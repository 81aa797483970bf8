use Rattle.std.proofs.Common.{◌≡◌, drop}
use Rattle.gate_figures.specs.Figures.{nonstandard_spend}
use Rattle.gate_figures.proofs.reports.first_nonstandard_spend.Given as goal

abbrev pub invariant-loop-input : goal.invariant-loop-input
invariant-loop-input l = nonstandard_spend l.anchors 0 l.answers ≡ nonstandard_spend l.anchors l.input (drop l.input l.answers)
