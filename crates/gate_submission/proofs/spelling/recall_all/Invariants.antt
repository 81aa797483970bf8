use Rattle.std.proofs.Common.{drop}
use Rattle.gate_submission.proofs.Telling.{AreSpelled}
use Rattle.gate_submission.proofs.spelling.recall_all.Given as goal

abbrev pub invariant-loop-transaction : goal.invariant-loop-transaction
invariant-loop-transaction l = AreSpelled (drop l.transaction-index l.transactions) → AreSpelled l.transactions
