use Rattle.gate_submission.proofs.Telling.{texts_next, texts_last}
use Rattle.gate_submission.proofs.spelling.recall_texts.Goals as goal

pub loop-submission-preserved : goal.loop-submission-preserved
loop-submission-preserved c = λ rest.
    c.loop-submission.invariant (texts_next c.args.submissions.now c.loop-submission.submission-index c.submission-item.result c.loop-submission-test.true c.submission-item.is c.recall_spelled.ensures rest)

pub returns : goal.returns
returns c = c.loop-submission.invariant (texts_last c.args.submissions.now c.loop-submission.submission-index c.loop-submission-test.false)
