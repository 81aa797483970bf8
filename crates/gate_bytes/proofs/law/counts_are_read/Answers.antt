use Rattle.gate_bytes.proofs.Laws.{counts_are_read, counts_stand_apart}
use Rattle.gate_bytes.proofs.law.counts_are_read.Goals as goal

pub returns-clause-read : goal.returns-clause-read
returns-clause-read c = counts_are_read

pub returns-clause-apart : goal.returns-clause-apart
returns-clause-apart c = counts_stand_apart
