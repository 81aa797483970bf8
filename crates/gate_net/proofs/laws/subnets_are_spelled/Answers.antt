use Rattle.gate_net.proofs.Ranged.{subnet_found, subnet_read, mapped_found, mapped_read}
use Rattle.gate_net.proofs.laws.subnets_are_spelled.Goals as goal

pub returns-clause-spelled : goal.returns-clause-spelled
returns-clause-spelled c = λ text subnet. (subnet_found text subnet, subnet_read text subnet)

pub returns-clause-mapped : goal.returns-clause-mapped
returns-clause-mapped c = λ text. (mapped_found text, mapped_read text)
