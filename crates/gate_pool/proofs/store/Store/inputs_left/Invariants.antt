use Rattle.std.proofs.Common.{◌≡◌, ◌+◌, take}
use Rattle.gate_pool.specs.Pool.{inputs_of}
use Rattle.gate_pool.proofs.store.Store.inputs_left.Given as goal

abbrev pub invariant-loop-txid : goal.invariant-loop-txid
invariant-loop-txid g l = l.sum ≡ l.self.left.inputs + inputs_of l.self.entries (take l.txid-index l.leaving) + l.more
