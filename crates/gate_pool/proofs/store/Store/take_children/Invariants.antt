use Rattle.std.proofs.Common.{◌≡◌, length}
use Rattle.gate_pool.specs.Family.{names, without_below}
use Rattle.gate_pool.proofs.store.Store.take_children.Given as goal

abbrev pub invariant-loop-child : goal.invariant-loop-child
invariant-loop-child g l = record {
  entries : without_below (λ e. names e l.id) l.self.entries ≡ without_below (λ e. names e l.id) l.fn.self.entries;
  before : l.self.before ≡ l.fn.self.before;
}

abbrev pub decreases-loop-child : goal.decreases-loop-child
decreases-loop-child g l = length l.self.entries
