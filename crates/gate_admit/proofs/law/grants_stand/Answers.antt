use Rattle.gate_admit.proofs.Submissions.{full_gone, granted_held, granted_young}
use Rattle.gate_admit.proofs.law.grants_stand.Goals as goal

pub returns : goal.returns
returns c = record { held = granted_held; young = granted_young; gone = full_gone }
