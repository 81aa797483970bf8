use Rattle.gate_reorg.proofs.Origins.{floors_never_fall}
use Rattle.gate_reorg.proofs.law.floors_never_fall.Goals as goal

pub returns : goal.returns
returns c = floors_never_fall
