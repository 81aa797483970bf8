use Rattle.gate_core.proofs.Separate.{run_leaves}
use Rattle.gate_core.proofs.laws.peers_are_separate.Goals as goal

pub returns : goal.returns
returns c = λ w events peer others. run_leaves events w peer others
