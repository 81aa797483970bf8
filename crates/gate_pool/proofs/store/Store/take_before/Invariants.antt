use Rattle.std.proofs.Common.{◌≡◌, length}
use Rattle.gate_pool.specs.Pool.{is_before}
use Rattle.gate_pool.specs.Family.{without_below}
use Rattle.gate_pool.specs.Arrivals.{HaveArrived}
use Rattle.gate_pool.proofs.store.Store.take_before.Given as goal

abbrev pub invariant-loop-txid : goal.invariant-loop-txid
invariant-loop-txid g l = record {
  rest : without_below (is_before l.time) l.self.entries ≡ without_below (is_before l.time) l.fn.self.entries;
  before : l.self.before ≡ l.fn.self.before;
  arrived : HaveArrived l.self.entries l.arrivals.list;
}

abbrev pub decreases-loop-txid : goal.decreases-loop-txid
decreases-loop-txid g l = length l.arrivals.list
