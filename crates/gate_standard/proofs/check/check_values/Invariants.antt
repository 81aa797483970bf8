use Rattle.std.proofs.Common.{◌≡◌, ◌≤◌, drop}
use Rattle.gate_tx.specs.Money.{max_money}
use Rattle.gate_bytes.specs.Order.{first_failing}
use Rattle.gate_standard.specs.Rules.{output_value_rules}
use Rattle.gate_standard.proofs.check.check_values.Given as goal

abbrev pub invariant-loop-output : goal.invariant-loop-output
invariant-loop-output l = record {
  small : l.sum ≤ max_money;
  rest : first_failing (output_value_rules 0 l.outputs) ≡ first_failing (output_value_rules l.sum (drop l.output-index l.outputs));
}
