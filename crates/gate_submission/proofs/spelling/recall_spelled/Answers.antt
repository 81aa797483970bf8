use Rattle.gate_submission.proofs.Telling.{AreSpelled, blocks_next, blocks_last, told_none, told_some}
use Rattle.gate_submission.specs.Blocks.{present, transactions_of}
use Rattle.std.proofs.Common.{[], ◌∷◌}
use Rattle.gate_submission.proofs.spelling.recall_spelled.Goals as goal
use Rattle.gate_submission.proofs.spelling.recall_spelled.Goals.{in-Some, in_default}

pub loop-block-preserved : goal.loop-block-preserved
loop-block-preserved c = λ rest.
    let told : AreSpelled (transactions_of (present (c.block-item.result ∷ []))) = elim c.match-block.branch [
      | in-Some w ↦ told_some c.block-item.result w.in-Some.block w.transactions.result.now w.in-Some.is w.transactions.ensures w.recall_all.ensures
      | in_default w ↦ told_none c.block-item.result w.in_default.is
    ] in
    c.loop-block.invariant (blocks_next c.args.blocks.now c.loop-block.block-index c.block-item.result c.loop-block-test.true c.block-item.is told rest)

pub returns : goal.returns
returns c = c.loop-block.invariant (blocks_last c.args.blocks.now c.loop-block.block-index c.loop-block-test.false)
