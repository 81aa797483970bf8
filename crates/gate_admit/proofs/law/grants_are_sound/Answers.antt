use Rattle.gate_admit.proofs.Granted.{decided_live, decided_conserve, decided_pay}
use Rattle.gate_admit.proofs.law.grants_are_sound.Goals as goal

pub returns : goal.returns
returns c = record { live = decided_live; conserve = decided_conserve; paid = decided_pay }
