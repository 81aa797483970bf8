use Rattle.std.proofs.Common.{◌≡◌, drop}
use Rattle.gate_standard.specs.Rules.{spends_twice}
use Rattle.gate_standard.proofs.Repeats.{repeats_after}
use Rattle.gate_standard.proofs.check.spends_twice.Given as goal

abbrev pub invariant-loop-input : goal.invariant-loop-input
invariant-loop-input l = spends_twice l.inputs ≡ repeats_after l.spent (drop l.input-index l.inputs)
