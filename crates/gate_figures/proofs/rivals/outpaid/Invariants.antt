use Rattle.std.proofs.Common.{◌≡◌, drop}
use Rattle.gate_figures.specs.Figures.{outpaid}
use Rattle.gate_figures.proofs.rivals.outpaid.Given as goal

abbrev pub invariant-loop-input : goal.invariant-loop-input
invariant-loop-input g l = outpaid l.pool.entries l.rate l.inputs ≡ outpaid l.pool.entries l.rate (drop l.input-index l.inputs)
