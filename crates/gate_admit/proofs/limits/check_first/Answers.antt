use Rattle.std.proofs.Common.{◌≡◌, ◌≤◌, List, [], length, sym, ap, subst, ◌∙◌, arith}
use Rattle.gate_tx.specs.declared.TxIn.{TxIn}
use Rattle.gate_tx.specs.Tx.{Tx}
use Rattle.gate_pool.specs.Pool.{Admitted}
use Rattle.gate_pool.specs.Family.{ancestors_above}
use Rattle.gate_admit.proofs.Families.{long_fails}
use Rattle.gate_admit.proofs.limits.check_first.Goals as goal

pub check_alone-requires : goal.check_alone-requires
check_alone-requires g c =
    let direct = c.args.direct.now in
    let inputs = c.inputs.ensures ∙ ap (λ (t : Tx). t.inputs) c.transaction.ensures in
    subst (λ (is : List TxIn). ancestors_above direct.entries is ≡ []) inputs
    (subst (λ (l : List Admitted). ancestors_above l c.inputs.result.now ≡ []) c.pool.ensures (c.fewest_ancestors-fewest.ensures.none (omega (arith, c.if-fewest-eq0.true))))

pub returns-then-fewest-most : goal.returns-then-fewest-most
returns-then-fewest-most g c =
    let direct = c.args.direct.now in
    let inputs = c.inputs.ensures ∙ ap (λ (t : Tx). t.inputs) c.transaction.ensures in
    let least : c.fewest_ancestors-fewest.result ≤ length (ancestors_above direct.entries direct.tx.inputs) =
    subst (λ (is : List TxIn). c.fewest_ancestors-fewest.result ≤ length (ancestors_above direct.entries is)) inputs
    (subst (λ (l : List Admitted). c.fewest_ancestors-fewest.result ≤ length (ancestors_above l c.inputs.result.now)) c.pool.ensures c.fewest_ancestors-fewest.ensures.least) in
    sym (long_fails c.args.policy.now direct.entries direct.tx c.args.vsize (omega (arith, least, c.most_ancestors-most.ensures)))
