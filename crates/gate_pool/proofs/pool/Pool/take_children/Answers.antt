use Rattle.std.proofs.Common.{ap, sym, not, refl, ◌∙◌, arith}
use Rattle.gate_pool.specs.Pool.{Admitted}
use Rattle.gate_pool.specs.Family.{is_below_some, names}
use Rattle.gate_pool.proofs.Readiness.{IsReady-filter}
use Rattle.gate_pool.specs.Scores.{least_of}
use Rattle.gate_pool.proofs.pool.Pool.take_children.Goals as goal

pub invariant_of-self : goal.invariant_of-self
invariant_of-self g c =
    IsReady-filter (λ (e : Admitted). not (is_below_some (λ d. names d c.args.txid.now) c.self.inside.store.entries e)) c.self.invariant c.take_children.ensures.entries c.settle-self-inside.ensures.entries (omega (arith, c.settle-self-inside.ensures.room)) refl (c.settle-self-inside.ensures.value ∙ ap least_of (sym c.settle-self-inside.ensures.entries)) c.settle-self-inside.ensures.bounded
