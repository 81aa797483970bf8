use Rattle.std.proofs.Common.{◌≡◌, take}
use Rattle.gate_pool.proofs.Chosen.{left}
use Rattle.gate_pool.proofs.store.Store.take_chosen.Given as goal

abbrev pub invariant-loop-id : goal.invariant-loop-id
invariant-loop-id g l = record {
  entries : l.self.entries ≡ left l.fn.self.entries (take l.id-index l.chosen);
  before : l.self.before ≡ l.fn.self.before;
}
