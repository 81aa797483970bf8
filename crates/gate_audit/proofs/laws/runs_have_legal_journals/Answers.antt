use Rattle.gate_audit.proofs.Telling.{runs_have_legal_journals}
use Rattle.gate_audit.proofs.laws.runs_have_legal_journals.Goals as goal

pub returns : goal.returns
returns c = runs_have_legal_journals
