use Rattle.std.proofs.Common.{◌≤◌, ◌-◌, length, vec_len}
use Rattle.gate_pool.specs.Search.{AreLent}
use Rattle.gate_pool.proofs.Families.{WalkUp}
use Rattle.gate_pool.proofs.closures.family_above.Given as goal

abbrev pub invariant-loop-opened : goal.invariant-loop-opened
invariant-loop-opened g l = record {
  walk : WalkUp (g.V.FamilyView.entries l.pool) l.inputs l.opened l.found.items;
  lent : AreLent (g.V.FamilyView.entries l.pool) l.found.items l.lent.items;
  few : vec_len l.found ≤ l.most;
}

abbrev pub decreases-loop-opened : goal.decreases-loop-opened
decreases-loop-opened g l = length (g.V.FamilyView.entries l.pool) - l.opened
