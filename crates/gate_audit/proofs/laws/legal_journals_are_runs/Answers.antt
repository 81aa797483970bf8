use Rattle.gate_audit.proofs.Telling.{legal_journals_are_runs}
use Rattle.gate_audit.proofs.laws.legal_journals_are_runs.Goals as goal

pub returns : goal.returns
returns c = legal_journals_are_runs
