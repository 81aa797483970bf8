use Rattle.gate_audit.proofs.SomeAnswer.{audits_are_exact}
use Rattle.gate_audit.proofs.laws.audits_are_exact.Goals as goal

pub returns : goal.returns
returns c = audits_are_exact
