use Rattle.std.proofs.Common.{not, sym, ap, ◌∙◌, arith}
use Rattle.gate_pool.specs.Pool.{Admitted}
use Rattle.gate_pool.specs.Family.{is_below_some, without_below}
use Rattle.gate_pool.specs.Pool.{Pooled}
use Rattle.gate_pool.proofs.Readiness.{IsReady-filter}
use Rattle.gate_pool.specs.Scores.{least_of}
use Rattle.gate_pool.proofs.pool.Pool.take_below.Goals as goal

pub invariant_of-self : goal.invariant_of-self
invariant_of-self g c =
    let test = g.T.Test.chosen c.args.test.now in
    let rest = c.take_chosen.ensures.entries test (c.as_slice.ensures.value ∙ c.choose.ensures.ids) in
    IsReady-filter (λ (e : Admitted). not (is_below_some test c.self.inside.store.entries e)) c.self.invariant rest c.settle-self-inside.ensures.entries (omega (arith, c.settle-self-inside.ensures.room)) c.choose.ensures.capacity (c.settle-self-inside.ensures.value ∙ ap least_of (sym c.settle-self-inside.ensures.entries)) c.settle-self-inside.ensures.bounded

pub returns-clause-entries : goal.returns-clause-entries
returns-clause-entries g c =
    let test = g.T.Test.chosen c.args.test.now in
    c.settle-self-inside.ensures.entries ∙ c.take_chosen.ensures.entries test (c.as_slice.ensures.value ∙ c.choose.ensures.ids) ∙ ap (λ (p : Pooled). without_below test p.entries) c.self.view_is
