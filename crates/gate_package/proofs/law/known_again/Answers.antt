use Rattle.gate_package.proofs.Again.{again}
use Rattle.gate_package.proofs.law.known_again.Goals as goal

pub returns : goal.returns
returns c = again
