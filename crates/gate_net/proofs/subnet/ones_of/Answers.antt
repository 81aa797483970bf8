use Rattle.std.proofs.Common.{rules, sym, ap, ◌∙◌, ◌≡◌, ◌≤◌, w32}
use Rattle.std.specs.Int.{leading_ones}
use Rattle.std.specs.Net.Addr.{ipv4_bits}
use Rattle.gate_net.specs.Subnets.{netmask}
use Rattle.gate_net.proofs.Lengths.{mask_found, mask_none}
use Rattle.gate_net.proofs.subnet.ones_of.Goals as goal

pub returns-then-from-mask_of : goal.returns-then-from-mask_of
returns-then-from-mask_of c =
    let small : c.leading_ones-ones.result ≤ 32 = search rules in
    mask_found (ipv4_bits c.args.mask) c.leading_ones-ones.result small
    (sym c.to_bits-bits.ensures ∙ (sym c.from.ensures ∙ (c.if-from-mask_of.true ∙ c.mask_of.ensures)))

pub returns-else-from-mask_of : goal.returns-else-from-mask_of
returns-else-from-mask_of c =
    let ones : leading_ones w32 (ipv4_bits c.args.mask) ≡ c.leading_ones-ones.result = ap (leading_ones w32) (sym c.to_bits-bits.ensures) ∙ sym c.leading_ones-ones.ensures in
    mask_none (ipv4_bits c.args.mask) (λ is. c.if-from-mask_of.false (c.from.ensures ∙ (c.to_bits-bits.ensures ∙ (is ∙ (ap netmask ones ∙ sym c.mask_of.ensures)))))
