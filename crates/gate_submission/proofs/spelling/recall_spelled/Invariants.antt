use Rattle.std.proofs.Common.{drop}
use Rattle.gate_submission.specs.Blocks.{present, transactions_of}
use Rattle.gate_submission.proofs.Telling.{AreSpelled}
use Rattle.gate_submission.proofs.spelling.recall_spelled.Given as goal

abbrev pub invariant-loop-block : goal.invariant-loop-block
invariant-loop-block l = AreSpelled (transactions_of (present (drop l.block-index l.blocks))) → AreSpelled (transactions_of (present l.blocks))
