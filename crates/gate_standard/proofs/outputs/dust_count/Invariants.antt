use Rattle.std.proofs.Common.{◌≡◌, ◌≤◌, take}
use Rattle.std.specs.List.{count_by}
use Rattle.gate_standard.specs.Outputs.{is_dust}
use Rattle.gate_standard.proofs.outputs.dust_count.Given as goal

abbrev pub invariant-loop-output : goal.invariant-loop-output
invariant-loop-output l = (l.count ≡ count_by (is_dust l.standards.dust_rate) (take l.output-index l.outputs)) × (l.count ≤ l.output-index)
