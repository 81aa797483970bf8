use Rattle.gate_core.proofs.Guarding.{noban_is_kept}
use Rattle.gate_core.proofs.laws.noban_is_kept.Goals as goal

pub returns : goal.returns
returns c = noban_is_kept
