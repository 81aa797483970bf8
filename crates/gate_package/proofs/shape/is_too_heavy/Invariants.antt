use Rattle.std.proofs.Common.{◌≡◌, ◌≤◌, take}
use Rattle.gate_package.specs.Shapes.{weight_of_all}
use Rattle.gate_package.proofs.shape.is_too_heavy.Given as goal

abbrev pub invariant-loop-member : goal.invariant-loop-member
invariant-loop-member l = (l.weight ≡ weight_of_all (take l.member-index l.members)) × (l.weight ≤ 404_000)
