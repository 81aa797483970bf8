use Rattle.std.proofs.Common.{◌≡◌, take}
use Rattle.std.specs.Vec.{vec_capacity}
use Rattle.gate_pool.specs.Search.{parents_of}
use Rattle.gate_pool.proofs.naming.list_parents.Given as goal

abbrev pub invariant-loop-input : goal.invariant-loop-input
invariant-loop-input l = record {
  items : l.parents.items ≡ parents_of (take l.input-index l.inputs);
  capacity : vec_capacity l.parents ≡ vec_capacity l.fn.parents;
}
