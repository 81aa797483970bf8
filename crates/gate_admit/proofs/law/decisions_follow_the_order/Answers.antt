use Rattle.gate_admit.proofs.Following.{decisions_follow}
use Rattle.gate_admit.proofs.law.decisions_follow_the_order.Goals as goal

pub returns : goal.returns
returns c = decisions_follow
