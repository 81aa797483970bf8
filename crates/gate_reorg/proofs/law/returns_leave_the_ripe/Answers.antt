use Rattle.gate_reorg.proofs.Ripening.{returns_leave_the_ripe}
use Rattle.gate_reorg.proofs.law.returns_leave_the_ripe.Goals as goal

pub returns : goal.returns
returns c = returns_leave_the_ripe
