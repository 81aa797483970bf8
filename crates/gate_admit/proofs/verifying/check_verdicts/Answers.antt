use Rattle.std.proofs.Common.{◌≡◌, ◌∙◌, ap, sym, Some, None, List, ℕ, arith}
use Rattle.gate_tx.specs.declared.TxIn.{TxIn}
use Rattle.gate_tx.specs.Tx.{Tx}
use Rattle.gate_tx.specs.Ids.{wtxid_of}
use Rattle.gate_bytes.specs.Order.{first_failing}
use Rattle.gate_admit.specs.Reports.{rules_of_verdict, verdict_rules}
use Rattle.gate_admit.specs.Verdicts.{verdict_of}
use Rattle.gate_admit.proofs.Valuing.{verdict_fails, verdict_passes}
use Rattle.gate_admit.proofs.verifying.check_verdicts.Goals as goal

pub returns-in-Some : goal.returns-in-Some
returns-in-Some g c =
    let v = c.args.verdicts.now in
    let w = c.wtxid-wtxid.result in
    let xs = c.inputs-input-items.result.now in
    let fails : first_failing (rules_of_verdict (verdict_of v w c.loop-input.index)) ≡ Some c.in-Some.denial =
    ap (λ o. first_failing (rules_of_verdict o)) (sym c.on.ensures) ∙ sym c.check_verdict.ensures ∙ c.in-Some.is in
    let all : first_failing (verdict_rules v w 0 xs) ≡ Some c.in-Some.denial =
    c.loop-input.invariant.2 ∙ verdict_fails v w c.loop-input.index xs c.loop-input._input-index c._input-item.result c.in-Some.denial c.loop-input-test.true fails in
    sym all
    ∙ ap (λ (id : List ℕ). first_failing (verdict_rules v id 0 xs)) c.wtxid-wtxid.ensures
    ∙ ap (λ (is : List TxIn). first_failing (verdict_rules v (wtxid_of c.args.tx.now) 0 is)) (c.inputs-input-items.ensures ∙ ap (λ (t : Tx). t.inputs) c.transaction-transaction.ensures)

pub loop-input-preserved : goal.loop-input-preserved
loop-input-preserved g c =
    let v = c.args.verdicts.now in
    let w = c.wtxid-wtxid.result in
    let xs = c.inputs-input-items.result.now in
    let passes : first_failing (rules_of_verdict (verdict_of v w c.loop-input.index)) ≡ None =
    ap (λ o. first_failing (rules_of_verdict o)) (sym c.on.ensures) ∙ sym c.check_verdict.ensures ∙ c.in_default.is in
    (omega arith, c.loop-input.invariant.1, c.loop-input.invariant.2 ∙ verdict_passes v w c.loop-input.index xs c.loop-input._input-index c._input-item.result c.loop-input-test.true passes)
