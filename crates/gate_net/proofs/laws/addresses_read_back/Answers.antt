use Rattle.gate_net.proofs.Printed.{read_back}
use Rattle.gate_net.proofs.laws.addresses_read_back.Goals as goal

pub returns : goal.returns
returns c = read_back
