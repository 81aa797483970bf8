use Rattle.gate_net.proofs.Given.{nothing_taken}
use Rattle.gate_net.proofs.laws.entries_take_nothing.Goals as goal

pub returns : goal.returns
returns c = nothing_taken
