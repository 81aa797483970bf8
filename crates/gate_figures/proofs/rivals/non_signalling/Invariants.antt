use Rattle.std.proofs.Common.{◌≡◌, drop}
use Rattle.gate_figures.specs.Figures.{non_signalling}
use Rattle.gate_figures.proofs.rivals.non_signalling.Given as goal

abbrev pub invariant-loop-input : goal.invariant-loop-input
invariant-loop-input g l = non_signalling l.truc l.pool.entries 0 l.inputs ≡ non_signalling l.truc l.pool.entries l.input (drop l.input l.inputs)
