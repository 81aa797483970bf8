use Rattle.std.proofs.Common.{◌-◌, ◌^◌, true, [], take}
use Rattle.gate_pool.specs.Search.{parents_of, IsFound}
use Rattle.gate_pool.proofs.closures.parents.Given as goal

abbrev pub invariant-loop-input : goal.invariant-loop-input
invariant-loop-input g l = IsFound (2 ^ 64 - 1) (g.V.FamilyView.entries l.pool) (take l.input-index (parents_of l.inputs)) [] l.found.items true
