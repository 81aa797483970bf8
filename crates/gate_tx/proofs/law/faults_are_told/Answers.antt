use Rattle.gate_tx.proofs.Cuts.{cuts_are_short}
use Rattle.gate_tx.proofs.Faults.{more_is_trailing, long_is_too_large, empty_witnesses_are_refused}
use Rattle.gate_tx.proofs.law.faults_are_told.Goals as goal

pub returns-clause-cut : goal.returns-clause-cut
returns-clause-cut c = cuts_are_short

pub returns-clause-more : goal.returns-clause-more
returns-clause-more c = more_is_trailing

pub returns-clause-long : goal.returns-clause-long
returns-clause-long c = long_is_too_large

pub returns-clause-empty : goal.returns-clause-empty
returns-clause-empty c = empty_witnesses_are_refused
