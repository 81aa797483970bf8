use Rattle.std.proofs.Common.{◌≡◌, ◌+◌, Bool, take}
use Rattle.std.specs.Prelude.{filter}
use Rattle.gate_pool.specs.Pool.{Admitted}
use Rattle.gate_pool.specs.Family.{AreIdsOf}
use Rattle.gate_rbf.proofs.Counted.{counted}
use Rattle.gate_rivals.proofs.rivals.have_too_many.Given as goal

abbrev pub invariant-loop-id : goal.invariant-loop-id
invariant-loop-id g l = (test : Admitted → Bool) → AreIdsOf l.ids (filter test l.pool.entries) → l.left + counted l.pool.entries (take l.id-index l.ids) ≡ 100
