use Rattle.std.proofs.Common.{ℕ, ◌/◌, ◌-◌, ◌^◌, ◌≡◌, ◌==◌, sym, ap, ap₂, ◌∙◌}
use Rattle.std.specs.Net.Addr.{ipv4_bits, ipv6_bits}
use Rattle.gate_net.specs.Addresses.{Address, seen}
use Rattle.gate_net.specs.Subnets.{Subnet, is_in}
use Rattle.gate_net.proofs.Contained.{v4_in, v6_in}
use Rattle.gate_net.proofs.subnet.Subnet.contains.Goals as goal

pub returns-in-V4-V4 : goal.returns-in-V4-V4
returns-in-V4-V4 c =
    let prefix = c.from-dropped.ensures ∙ ap (λ (s : Subnet). s.prefix) c.self.view_is in
    let i = c.first_bits.ensures ∙ ap₂ (λ (n p : ℕ). n / 2 ^ (32 - p)) (c.from.ensures ∙ c.to_bits.ensures) prefix in
    let j = c.first_bits-in-V4-V4.ensures ∙ ap₂ (λ (n p : ℕ). n / 2 ^ (32 - p)) (c.from-in-V4-V4.ensures ∙ c.to_bits-in-V4-V4.ensures) prefix in
    let x = sym (ap seen c.in-V4-V4.is-0) ∙ c.ip.ensures in
    let s = sym (ap seen c.in-V4-V4.is-1) ∙ (c.ip-2.ensures ∙ ap (λ (s : Subnet). s.address) c.self.view_is) in
    ap₂ (λ (n m : ℕ). n == m) i j ∙ v4_in c.args.address.now c.args.self.now c.in-V4-V4.a c.in-V4-V4.b x s

pub returns-in-V6-V6 : goal.returns-in-V6-V6
returns-in-V6-V6 c =
    let prefix = c.from-dropped-in-V6-V6.ensures ∙ ap (λ (s : Subnet). s.prefix) c.self.view_is in
    let i = c.first_bits-in-V6-V6.ensures ∙ ap₂ (λ (n p : ℕ). n / 2 ^ (128 - p)) c.to_bits-in-V6-V6.ensures prefix in
    let j = c.first_bits-in-V6-V6-2.ensures ∙ ap₂ (λ (n p : ℕ). n / 2 ^ (128 - p)) c.to_bits-in-V6-V6-2.ensures prefix in
    let x = sym (ap seen c.in-V6-V6.is-0) ∙ c.ip.ensures in
    let s = sym (ap seen c.in-V6-V6.is-1) ∙ (c.ip-2.ensures ∙ ap (λ (s : Subnet). s.address) c.self.view_is) in
    ap₂ (λ (n m : ℕ). n == m) i j ∙ v6_in c.args.address.now c.args.self.now c.in-V6-V6.a c.in-V6-V6.b x s
