use Rattle.std.proofs.Common.{◌≡◌, drop}
use Rattle.gate_figures.specs.Figures.{unswept}
use Rattle.gate_figures.proofs.sweeping.unswept.Given as goal

abbrev pub invariant-loop-input : goal.invariant-loop-input
invariant-loop-input g l =
    unswept l.rate l.pool.entries l.inputs l.inputs ≡ unswept l.rate l.pool.entries l.inputs (drop l.input-index l.inputs)
