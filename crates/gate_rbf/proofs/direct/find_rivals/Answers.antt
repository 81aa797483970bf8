use Rattle.std.proofs.Common.{◌+◌, ◌++◌, ◌∷◌, [], sym, ◌∙◌, ap, subst, List, take, arith}
use Rattle.std.specs.Prelude.{filter}
use Rattle.std.proofs.lemmas.List.{take_all}
use Rattle.gate_tx.specs.declared.TxIn.{TxIn}
use Rattle.gate_pool.specs.Pool.{Admitted}
use Rattle.gate_pool.specs.Family.{spends_one_of}
use Rattle.gate_rbf.specs.Direct.{AreThese}
use Rattle.gate_rbf.proofs.Rivals.{AreThese-none, AreThese-more, AreThese-passed}
use Rattle.gate_rbf.proofs.direct.find_rivals.Goals as goal
use Rattle.gate_rbf.proofs.direct.find_rivals.Goals.{in-Some+in_ok-push-in-Some, in-None}

pub loop-input-init : goal.loop-input-init
loop-input-init g c =
    let entries = c.args.pool.now.entries in
    subst (λ (l : List Admitted). AreThese l (filter (spends_one_of []) entries)) (sym c.new-found.ensures.items) (AreThese-none entries)

pub loop-input-preserved : goal.loop-input-preserved
loop-input-preserved g c =
    let entries = c.args.pool.now.entries in
    let items = c.inputs-input-items.result.now in
    let k = c.loop-input.input-index in
    elim c.match-spender.branch [
      | in-Some+in_ok-push-in-Some w ↦
          subst (λ f. AreThese f.items (filter (spends_one_of (take (k + 1) items)) entries)) (sym w.found-is)
          (AreThese-more entries items k c.input-item.result c.loop-input-test.true (sym c.input-item.is) c.recall_distinct.ensures w.in-Some.spender.now (sym w.in-Some.ensures)
          c.loop-input.found.items w.push.new.self.items (w.in_ok-push-in-Some.ensures.items ∙ ap (λ (e : Admitted). c.loop-input.found.items ++ e ∷ []) w.of.ensures) c.loop-input.invariant)
      | in-None w ↦
          subst (λ f. AreThese f.items (filter (spends_one_of (take (k + 1) items)) entries)) (sym w.found-is)
          (AreThese-passed entries items k c.input-item.result c.loop-input-test.true (sym c.input-item.is) (sym w.in-None.ensures) c.loop-input.found.items c.loop-input.invariant)
    ]

pub returns : goal.returns
returns g c =
    let entries = c.args.pool.now.entries in
    subst (λ (l : List TxIn). AreThese c.loop-input.found.items (filter (spends_one_of l) entries))
    (take_all c.loop-input.input-index c.inputs-input-items.result.now (omega (arith, c.loop-input-test.false)) ∙ c.inputs-input-items.ensures) c.loop-input.invariant
