use Rattle.std.proofs.Common.{◌≡◌, ◌<◌, None, List, length, subst, ap, ◌∙◌}
use Rattle.std.specs.Prelude.{IfSome}
use Rattle.gate_tx.specs.declared.TxIn.{TxIn}
use Rattle.gate_tx.specs.Tx.{Tx}
use Rattle.gate_pool.specs.Pool.{Admitted}
use Rattle.gate_pool.specs.Family.{ancestors_above, sums_of, AreIdsOf}
use Rattle.gate_figures.proofs.room.family_of.Goals as goal

pub returns-clause-ids : goal.returns-clause-ids
returns-clause-ids g c =
    let found = c.in_ok-found.found in
    subst (λ (is : List TxIn). IfSome found (λ above. AreIdsOf above.ids.items (ancestors_above c.args.direct.now.entries is))) (c.inputs-inputs.ensures ∙ ap (λ (t : Tx). t.inputs) c.transaction.ensures)
    (subst (λ (l : List Admitted). IfSome found (λ above. AreIdsOf above.ids.items (ancestors_above l c.inputs-inputs.result.now))) c.pool.ensures c.in_ok-found.ensures.found)

pub returns-clause-sums : goal.returns-clause-sums
returns-clause-sums g c =
    let found = c.in_ok-found.found in
    subst (λ (is : List TxIn). IfSome found (λ above. above.sums ≡ sums_of (ancestors_above c.args.direct.now.entries is))) (c.inputs-inputs.ensures ∙ ap (λ (t : Tx). t.inputs) c.transaction.ensures)
    (subst (λ (l : List Admitted). IfSome found (λ above. above.sums ≡ sums_of (ancestors_above l c.inputs-inputs.result.now))) c.pool.ensures c.in_ok-found.ensures.sums)

pub returns-clause-many : goal.returns-clause-many
returns-clause-many g c =
    let found = c.in_ok-found.found in
    subst (λ (is : List TxIn). found ≡ None → c.args.most < length (ancestors_above c.args.direct.now.entries is)) (c.inputs-inputs.ensures ∙ ap (λ (t : Tx). t.inputs) c.transaction.ensures)
    (subst (λ (l : List Admitted). found ≡ None → c.args.most < length (ancestors_above l c.inputs-inputs.result.now)) c.pool.ensures c.in_ok-found.ensures.many)
