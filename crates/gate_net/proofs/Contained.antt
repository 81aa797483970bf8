-- Addresses in a subnet, by their first bits.
use Rattle.std.proofs.Common.{◌≡◌, ℕ, ◌-◌, ◌/◌, ◌^◌, ◌==◌, ◌&&◌, Bool, subst, refl}
use Rattle.std.specs.declared.net.ip_addr.IpAddr.TheVariants as Ip
use Rattle.std.specs.declared.net.ipv4_addr.Ipv4Addr.{Ipv4Addr}
use Rattle.std.specs.declared.net.ipv6_addr.Ipv6Addr.{Ipv6Addr}
use Rattle.std.specs.Net.Addr.{ipv4_bits, ipv6_bits}
use Rattle.gate_net.specs.Addresses.{Address, seen}
use Rattle.gate_net.specs.Subnets.{Subnet, is_same_family, first_bits, is_in}

abbrev alike : ℕ → Address → Address → Bool
alike n a b = is_same_family a b && (first_bits n a == first_bits n b)

pub v4_in : (x : Address) (s : Subnet) (a b : Ipv4Addr) → seen (Ip.V4 a) ≡ x → seen (Ip.V4 b) ≡ s.address
    → (ipv4_bits a / 2 ^ (32 - s.prefix) == ipv4_bits b / 2 ^ (32 - s.prefix)) ≡ is_in x s
unfolding ipv4_bits
v4_in x s a b p q =
    subst (λ t. (ipv4_bits a / 2 ^ (32 - s.prefix) == ipv4_bits b / 2 ^ (32 - s.prefix)) ≡ is_in t s) p
    (subst (λ t. (ipv4_bits a / 2 ^ (32 - s.prefix) == ipv4_bits b / 2 ^ (32 - s.prefix)) ≡ alike s.prefix (seen (Ip.V4 a)) t) q refl)

pub v6_in : (x : Address) (s : Subnet) (a b : Ipv6Addr) → seen (Ip.V6 a) ≡ x → seen (Ip.V6 b) ≡ s.address
    → (ipv6_bits a / 2 ^ (128 - s.prefix) == ipv6_bits b / 2 ^ (128 - s.prefix)) ≡ is_in x s
unfolding ipv6_bits
v6_in x s a b p q =
    subst (λ t. (ipv6_bits a / 2 ^ (128 - s.prefix) == ipv6_bits b / 2 ^ (128 - s.prefix)) ≡ is_in t s) p
    (subst (λ t. (ipv6_bits a / 2 ^ (128 - s.prefix) == ipv6_bits b / 2 ^ (128 - s.prefix)) ≡ alike s.prefix (seen (Ip.V6 a)) t) q refl)
