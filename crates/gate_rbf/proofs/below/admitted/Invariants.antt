use Rattle.std.proofs.Common.{take}
use Rattle.std.specs.Prelude.{filter}
use Rattle.gate_pool.specs.Family.{is_among, AreIdsOf}
use Rattle.gate_rbf.proofs.below.admitted.Given as goal

abbrev pub invariant-loop-id : goal.invariant-loop-id
invariant-loop-id g l = AreIdsOf l.found.items (filter (is_among (take l.id-index l.ids)) l.pool.entries)
