use Rattle.std.proofs.Common.{ap, not, refl, arith}
use Rattle.gate_pool.specs.Pool.{Admitted, Room}
use Rattle.gate_pool.specs.Family.{is_below_some, spends_one_of}
use Rattle.gate_pool.proofs.Readiness.{IsReady-filter}
use Rattle.gate_pool.proofs.pool.Pool.take_spenders.Goals as goal

pub invariant_of-self : goal.invariant_of-self
invariant_of-self g c =
    IsReady-filter (λ (e : Admitted). not (is_below_some (spends_one_of c.args.inputs.now) c.self.inside.store.entries e)) c.self.invariant c.take_conflicts.ensures.rest refl (omega (arith, ap (λ (r : Room). r.entries) c.take_conflicts.ensures.room)) refl c.least-self-inside.ensures.value c.least-self-inside.ensures.bounded
