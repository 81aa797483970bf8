use Rattle.gate_register.proofs.Policies.{is_set}
use Rattle.gate_register.proofs.law.others_are_kept.Goals as goal

pub returns : goal.returns
returns c = is_set
