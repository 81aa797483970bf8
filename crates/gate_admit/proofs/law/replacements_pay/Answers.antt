use Rattle.gate_admit.proofs.Replacing.{decided_replace}
use Rattle.gate_admit.proofs.law.replacements_pay.Goals as goal

pub returns : goal.returns
returns c = decided_replace
