use Rattle.std.proofs.Common.{sym, ap, ◌∙◌}
use Rattle.std.specs.declared.net.ip_addr.IpAddr.{IpAddr}
use Rattle.std.specs.Net.Addr.{ipv4_octets, ipv4_bits}
use Rattle.gate_net.specs.Addresses.{seen}
use Rattle.gate_net.specs.Subnets.{prefix_of}
use Rattle.gate_net.proofs.Lengths.{masked, unmasked}
use Rattle.gate_net.proofs.subnet.read_prefix.Goals as goal

pub returns-in-Ok : goal.returns-in-Ok
unfolding ipv4_bits
returns-in-Ok c =
    c.ones_of.ensures
    ∙ (masked (ipv4_octets c.in-V4.field-0) c.args.text.now (ipv4_octets c.in-Ok.mask) c.in-None.ensures c.in-Ok.ensures.value
    ∙ ap (λ (ip : IpAddr). prefix_of (seen ip) c.args.text.now) (sym c.in-V4.is))

pub returns-in-Err : goal.returns-in-Err
returns-in-Err c =
    unmasked (ipv4_octets c.in-V4.field-0) c.args.text.now c.in-None.ensures c.in-Err.ensures.value
    ∙ ap (λ (ip : IpAddr). prefix_of (seen ip) c.args.text.now) (sym c.in-V4.is)
