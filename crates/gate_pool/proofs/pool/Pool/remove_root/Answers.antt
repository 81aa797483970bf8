use Rattle.std.proofs.Common.{ap, sym, not, refl, ◌∙◌, arith}
use Rattle.gate_pool.specs.Pool.{Admitted, has_txid}
use Rattle.gate_pool.proofs.Readiness.{IsReady-filter}
use Rattle.gate_pool.specs.Scores.{least_of}
use Rattle.gate_pool.proofs.pool.Pool.remove_root.Goals as goal

pub invariant_of-self : goal.invariant_of-self
invariant_of-self g c =
    IsReady-filter (λ (e : Admitted). not (has_txid e c.args.txid.now)) c.self.invariant c.take_one.ensures.entries c.settle-self-inside.ensures.entries (omega (arith, c.settle-self-inside.ensures.room)) refl (c.settle-self-inside.ensures.value ∙ ap least_of (sym c.settle-self-inside.ensures.entries)) c.settle-self-inside.ensures.bounded
