use Rattle.std.proofs.Common.{◌≡◌, ◌≤◌, drop, take}
use Rattle.std.specs.List.{count_by}
use Rattle.gate_bytes.specs.Order.{first_failing}
use Rattle.gate_standard.specs.Outputs.{carries_data}
use Rattle.gate_standard.specs.Rules.{rules_of_outputs}
use Rattle.gate_standard.proofs.standard.count_carriers.Given as goal

abbrev pub invariant-loop-output : goal.invariant-loop-output
invariant-loop-output l = record {
  rest : first_failing (rules_of_outputs l.standards l.standards.data_total l.outputs) ≡ first_failing (rules_of_outputs l.standards l.left (drop l.output-index l.outputs));
  counted : l.carriers ≡ count_by carries_data (take l.output-index l.outputs);
  few : l.carriers ≤ l.output-index;
}
