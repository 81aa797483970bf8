use Rattle.gate_bytes.proofs.Laws.{numbers_are_read, signed_numbers_are_read}
use Rattle.gate_bytes.proofs.law.numbers_are_read.Goals as goal

pub returns-clause-plain : goal.returns-clause-plain
returns-clause-plain c = numbers_are_read

pub returns-clause-signed : goal.returns-clause-signed
returns-clause-signed c = signed_numbers_are_read
