use Rattle.std.proofs.Common.{subst, ◌∙◌}
use Rattle.gate_tx.specs.Text.{IsTx}
use Rattle.gate_submission.proofs.Telling.{spelled_next, spelled_last}
use Rattle.gate_submission.proofs.spelling.recall_all.Goals as goal

pub loop-transaction-preserved : goal.loop-transaction-preserved
loop-transaction-preserved c = λ rest.
    c.loop-transaction.invariant (spelled_next c.args.transactions.now c.loop-transaction.transaction-index c.transaction-item.result c.loop-transaction-test.true c.transaction-item.is (subst IsTx (c.transaction.ensures ∙ c.get.ensures) c.recall_invariant.ensures.is_tx) rest)

pub returns : goal.returns
returns c = c.loop-transaction.invariant (spelled_last c.args.transactions.now c.loop-transaction.transaction-index c.loop-transaction-test.false)
