use Rattle.std.proofs.Common.{◌≡◌, ◌≤◌, take}
use Rattle.std.specs.List.{count_by}
use Rattle.gate_standard.specs.Outputs.{carries_data}
use Rattle.gate_figures.proofs.outputs.carriers.Given as goal

abbrev pub invariant-loop-output : goal.invariant-loop-output
invariant-loop-output l = (l.count ≡ count_by carries_data (take l.output-index l.outputs)) × (l.count ≤ l.output-index)
