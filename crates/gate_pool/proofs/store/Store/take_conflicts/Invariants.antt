use Rattle.std.proofs.Common.{◌≡◌, None, take}
use Rattle.std.specs.Prelude.{Contains}
use Rattle.gate_tx.specs.declared.TxIn.{TxIn}
use Rattle.gate_pool.specs.Pool.{all_of, spender_of}
use Rattle.gate_pool.specs.Family.{without_below, spends_one_of}
use Rattle.gate_pool.proofs.store.Store.take_conflicts.Given as goal

abbrev pub invariant-loop-input : goal.invariant-loop-input
invariant-loop-input g l = record {
  rest : without_below (spends_one_of l.inputs) l.self.entries ≡ without_below (spends_one_of l.inputs) l.fn.self.entries;
  gone : (i : TxIn) → Contains (take l.input-index l.inputs) i → spender_of l.self.entries i.prevout ≡ None;
  before : l.self.before ≡ l.fn.self.before;
  room : l.self.room ≡ l.fn.self.room;
  next : l.self.next ≡ l.fn.self.next;
  all : all_of l.self ≡ all_of l.fn.self;
}
