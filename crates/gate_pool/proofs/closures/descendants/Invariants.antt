use Rattle.std.proofs.Common.{◌≤◌, ◌-◌, length, vec_len}
use Rattle.gate_pool.proofs.Families.{WalkDown}
use Rattle.gate_pool.proofs.closures.descendants.Given as goal

abbrev pub invariant-loop-opened : goal.invariant-loop-opened
invariant-loop-opened g l = record {
  walk : WalkDown (g.V.FamilyView.entries l.pool) l.roots l.opened l.found.items;
  few : vec_len l.found ≤ l.most;
}

abbrev pub decreases-loop-opened : goal.decreases-loop-opened
decreases-loop-opened g l = length (g.V.FamilyView.entries l.pool) - l.opened
