use Rattle.gate_core.proofs.Guarding.{flags_guard}
use Rattle.gate_core.proofs.laws.flags_guard.Goals as goal

pub returns : goal.returns
returns c = flags_guard
