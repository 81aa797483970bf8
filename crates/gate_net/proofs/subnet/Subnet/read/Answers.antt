use Rattle.std.proofs.Common.{None, Some, ◌∙◌}
use Rattle.gate_net.specs.Addresses.{seen}
use Rattle.gate_net.proofs.Parted.{subnet_parted, subnet_whole}
use Rattle.gate_net.proofs.subnet.Subnet.read.Goals as goal

pub returns-in-Some-written : goal.returns-in-Some-written
returns-in-Some-written c = c.read_slashed.ensures ∙ subnet_parted c.args.text.now c.in-Some.left.now c.in-Some.right.now (Some (seen c.in-Some-written.ip)) c.in-Some.ensures c.in-Some-written.ensures

pub returns-in-None-written : goal.returns-in-None-written
returns-in-None-written c = subnet_parted c.args.text.now c.in-Some.left.now c.in-Some.right.now None c.in-Some.ensures c.in-None-written.ensures

pub returns-in-None : goal.returns-in-None
returns-in-None c = c.read_host.ensures ∙ subnet_whole c.args.text.now c.in-None.ensures
