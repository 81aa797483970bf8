use Rattle.std.proofs.Common.{◌≡◌, ℕ, ◌∙◌, ap, take, arith}
use Rattle.std.specs.Prelude.{filter, sum_by}
use Rattle.std.proofs.lemmas.List.{take_all}
use Rattle.gate_pool.specs.Pool.{Admitted}
use Rattle.gate_graph.specs.declared.held.Sums.{Sums}
use Rattle.gate_pool.proofs.Adding.{weigh, weighed, length-ones}
use Rattle.gate_pool.proofs.closures.add_up.Goals as goal

made : (s t : Sums) → s.count ≡ t.count → s.size ≡ t.size → s.fees ≡ t.fees → s ≡ t
made s t a b c = λ i. record { count = a i; size = b i; fees = c i }

pub returns-clause-sums : goal.returns-clause-sums
returns-clause-sums g c = λ test ids.
    let entries = g.V.FamilyView.entries c.args.pool.now in
    let all : take c.loop-id.id-index c.args.ids.now ≡ c.args.ids.now = take_all c.loop-id.id-index c.args.ids.now (omega (arith, c.loop-id-test.false)) in
    let sum : (w : Admitted → ℕ) → weigh w entries (take c.loop-id.id-index c.args.ids.now) ≡ sum_by w (filter test entries) =
    λ w. ap (weigh w entries) all ∙ weighed w entries c.recall_apart.ensures c.args.ids.now test ids in
    made _ _
    (c.loop-id.invariant.0 ∙ sum (λ (e : Admitted). 1) ∙ length-ones (filter test entries))
    (c.loop-id.invariant.1 ∙ sum (λ (e : Admitted). e.vsize))
    (c.loop-id.invariant.2 ∙ sum (λ (e : Admitted). e.fee))
