use Rattle.gate_net.proofs.Spelled.{address_found, address_read}
use Rattle.gate_net.proofs.laws.addresses_are_spelled.Goals as goal

pub returns : goal.returns
returns c = λ text a. (λ h. address_found text a h, λ h. address_read text a h.0 h.1 h.2)
