use Rattle.gate_core.proofs.Denials.{run_denied}
use Rattle.gate_core.proofs.laws.denials_leave_the_pool.Goals as goal

pub returns : goal.returns
returns c = λ w events h. run_denied events w h
