use Rattle.std.proofs.Common.{◌≡◌, drop}
use Rattle.std.specs.List.{flat_map}
use Rattle.gate_bytes.specs.Order.{first_failing}
use Rattle.gate_standard.specs.Rules.{rules_of_input}
use Rattle.gate_standard.proofs.standard.check_inputs.Given as goal

abbrev pub invariant-loop-input : goal.invariant-loop-input
invariant-loop-input l = first_failing (flat_map rules_of_input l.inputs) ≡ first_failing (flat_map rules_of_input (drop l.input-index l.inputs))
