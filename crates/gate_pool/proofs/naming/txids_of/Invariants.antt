use Rattle.std.proofs.Common.{◌≡◌, take}
use Rattle.gate_pool.proofs.naming.txids_of.Given as goal

abbrev pub invariant-loop-id : goal.invariant-loop-id
invariant-loop-id l = l.txids.items ≡ take l.id-index l.ids
