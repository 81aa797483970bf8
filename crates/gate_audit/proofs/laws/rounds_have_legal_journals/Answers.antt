use Rattle.gate_audit.proofs.Telling.{rounds_have_legal_journals}
use Rattle.gate_audit.proofs.laws.rounds_have_legal_journals.Goals as goal

pub returns : goal.returns
returns c = rounds_have_legal_journals
