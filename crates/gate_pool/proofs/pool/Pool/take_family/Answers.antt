use Rattle.std.proofs.Common.{sym, not, refl, ap, ◌∙◌, arith}
use Rattle.gate_tx.specs.Ids.{txid_of}
use Rattle.gate_graph.specs.Family.{reaches}
use Rattle.gate_pool.specs.Pool.{Admitted}
use Rattle.gate_pool.specs.Family.{steps, without_family}
use Rattle.gate_pool.proofs.Readiness.{IsReady-filter}
use Rattle.gate_pool.specs.Scores.{least_of}
use Rattle.gate_pool.proofs.pool.Pool.take_family.Goals as goal

pub invariant_of-self : goal.invariant_of-self
invariant_of-self g c =
    let es = c.self.inside.store.entries in
    let x = c.args.txid.now in
    IsReady-filter (λ (e : Admitted). not (reaches (steps es) x (txid_of e.tx))) c.self.invariant (c.take_out.ensures.rest ∙ ap (without_family es) c.node_id.ensures) c.settle-self-inside.ensures.entries (omega (arith, c.settle-self-inside.ensures.room)) refl (c.settle-self-inside.ensures.value ∙ ap least_of (sym c.settle-self-inside.ensures.entries)) c.settle-self-inside.ensures.bounded

pub returns-clause-entries : goal.returns-clause-entries
returns-clause-entries g c = c.settle-self-inside.ensures.entries ∙ c.take_out.ensures.rest ∙ (λ i. without_family (c.self.view_is i).entries (c.node_id.ensures i))
