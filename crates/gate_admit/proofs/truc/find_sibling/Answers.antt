use Rattle.std.proofs.Common.{◌<◌, List, length, sym, ap, ◌∙◌, subst}
use Rattle.gate_tx.specs.declared.TxIn.{TxIn}
use Rattle.gate_tx.specs.Tx.{Tx}
use Rattle.gate_pool.specs.Pool.{Admitted}
use Rattle.gate_pool.specs.Family.{ancestors_above, AreIdsOf}
use Rattle.gate_admit.proofs.Kinship.{ids_above, sibling_of_many}
use Rattle.gate_admit.proofs.truc.find_sibling.Goals as goal

pub returns-in_default : goal.returns-in_default
returns-in_default g c =
    let direct = c.args.direct.now in
    let inputs = c.inputs-inputs.ensures ∙ ap (λ (t : Tx). t.inputs) c.transaction.ensures in
    let many = subst (λ (is : List TxIn). 1 < length (ancestors_above direct.entries is)) inputs
    (subst (λ (l : List Admitted). 1 < length (ancestors_above l c.inputs-inputs.result.now)) c.pool.ensures (c.in_ok-above.ensures.many c.in_default.is)) in
    sym (sibling_of_many direct.entries direct.tx (ancestors_above direct.entries direct.tx.inputs) many)

pub sibling_among-requires-clause-ids : goal.sibling_among-requires-clause-ids
sibling_among-requires-clause-ids g c =
    let direct = c.args.direct.now in
    let inputs = c.inputs-inputs.ensures ∙ ap (λ (t : Tx). t.inputs) c.transaction.ensures in
    let found : AreIdsOf c.in-Some.above.items (ancestors_above c.pool.result.now.entries c.inputs-inputs.result.now) = rw c.in-Some.is at c.in_ok-above.ensures.found in
    let are = ids_above direct.entries c.pool.result.now.entries direct.tx c.inputs-inputs.result.now c.in-Some.above.items c.pool.ensures inputs found in
    subst (λ ids. AreIdsOf ids (ancestors_above direct.entries direct.tx.inputs)) (sym c.deref.ensures.value) are
