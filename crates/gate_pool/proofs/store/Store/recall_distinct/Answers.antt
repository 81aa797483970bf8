use Rattle.std.proofs.Common.{subst}
use Rattle.gate_pool.specs.Pool.{Pooled}
use Rattle.gate_pool.specs.Distinct.{AreDistinct}
use Rattle.gate_pool.proofs.store.Store.recall_distinct.Goals as goal

pub returns : goal.returns
returns g c = subst (λ (p : Pooled). AreDistinct p.entries) c.self.view_is c.self.invariant.1.distinct
