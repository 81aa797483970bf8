use Rattle.std.proofs.Common.{◌≡◌, take, filter}
use Rattle.gate_package.specs.Shapes.{names_one}
use Rattle.gate_package.proofs.truc.parents_among.Given as goal

abbrev pub invariant-loop-other : goal.invariant-loop-other
invariant-loop-other l = l.parents.items ≡ filter (names_one l.inputs) (take l.other-index l.these)
