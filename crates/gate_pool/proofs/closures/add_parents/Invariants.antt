use Rattle.std.proofs.Common.{take, true}
use Rattle.gate_pool.specs.Search.{parents_of, AreLent, IsFound}
use Rattle.gate_pool.proofs.closures.add_parents.Given as goal

abbrev pub invariant-loop-input : goal.invariant-loop-input
invariant-loop-input g l = record {
  found : IsFound l.most (g.V.FamilyView.entries l.pool) (take l.input-index (parents_of l.inputs)) l.fn.found.items l.found.items true;
  lent : AreLent (g.V.FamilyView.entries l.pool) l.fn.found.items l.fn.lent.items → AreLent (g.V.FamilyView.entries l.pool) l.found.items l.lent.items;
}
