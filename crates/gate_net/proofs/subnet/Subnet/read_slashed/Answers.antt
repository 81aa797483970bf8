use Rattle.std.proofs.Common.{sym}
use Rattle.gate_net.specs.Addresses.{seen}
use Rattle.gate_net.proofs.Lengths.{slashed_small}
use Rattle.gate_net.proofs.subnet.Subnet.read_slashed.Goals as goal

pub invariant_of-result : goal.invariant_of-result
invariant_of-result c = slashed_small (seen c.args.ip) c.of.result c.args.text.now c.in-Some.prefix c.of.ensures (sym c.if-is_mapped_address.ensures) (sym c.in-Some.ensures)
