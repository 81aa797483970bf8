use Rattle.gate_core.proofs.ClosedSessions.{run_shut, run_answers}
use Rattle.gate_core.proofs.laws.closed_stays_closed.Goals as goal

pub returns : goal.returns
returns c = λ w events peer s h shut. (run_shut events w peer s h shut, λ k event at own. run_answers events w peer s k event h shut at own)
