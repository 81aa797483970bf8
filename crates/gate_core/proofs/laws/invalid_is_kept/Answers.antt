use Rattle.gate_core.proofs.Guarding.{invalid_is_kept}
use Rattle.gate_core.proofs.laws.invalid_is_kept.Goals as goal

pub returns : goal.returns
returns c = invalid_is_kept
