use Rattle.gate_admit.proofs.Replacing.{decided_evict}
use Rattle.gate_admit.proofs.law.siblings_pay.Goals as goal

pub returns : goal.returns
returns c = decided_evict
