use Rattle.gate_net.proofs.Given.{flags_given}
use Rattle.gate_net.proofs.laws.flags_are_given.Goals as goal

pub returns : goal.returns
returns c = flags_given
