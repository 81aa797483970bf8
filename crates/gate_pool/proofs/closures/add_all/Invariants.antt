use Rattle.std.proofs.Common.{take, true}
use Rattle.gate_pool.specs.Search.{IsFound}
use Rattle.gate_pool.proofs.closures.add_all.Given as goal

abbrev pub invariant-loop-txid : goal.invariant-loop-txid
invariant-loop-txid g l = IsFound l.most (g.V.FamilyView.entries l.pool) (take l.txid-index l.txids) l.fn.found.items l.found.items true
