use Rattle.gate_journal.proofs.Replaying.{legal-take}
use Rattle.gate_journal.proofs.law.legal_journals_begin_legal.Goals as goal

pub returns : goal.returns
returns c = legal-take
