use Rattle.std.proofs.Common.{◌-◌, length}
use Rattle.gate_check.specs.Inputs.{input_limit}
use Rattle.gate_check.proofs.InputParts.{InputHeld}
use Rattle.gate_check.proofs.input.read_input.Given as goal

abbrev pub invariant-loop-input : goal.invariant-loop-input
invariant-loop-input g l = InputHeld (g.R.Read.remaining l.initial.reader) (g.R.Read.remaining l.reader) l.input.items

abbrev pub decreases-loop-input : goal.decreases-loop-input
decreases-loop-input g l = input_limit - length l.input.items
