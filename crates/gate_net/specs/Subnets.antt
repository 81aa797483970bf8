-- Subnets: an address and how many of its first bits count (RFC 4632).
use Rattle.std.specs.Prelude.{ℕ, ◌≤◌, zero, suc, ◌-◌, ◌/◌, ◌^◌, Bool, ◌==◌, ◌&&◌, nat_lt, nat_le, if◌then◌else◌, List, length, drop, Option, Some, None, Result, Ok, Err}
use Rattle.std.specs.List.{position_or_len, before_first, after_first}
use Rattle.std.specs.Option.{option_map, option_and_then, option_or, ok_or}
use Rattle.std.specs.Int.{w32, w128, from_be_bytes}
use Rattle.std.specs.Str.{all_ascii_digits}
use Rattle.std.specs.Str.Parse.{digits_value}
use Rattle.std.specs.Net.Addr.{octets_of}
use Rattle.gate_rules.specs.declared.NetDenial.{NetDenial}
use Rattle.gate_rules.specs.declared.NetDenial.TheVariants.{BadSubnet, MappedSubnet}
use Rattle.gate_net.specs.Addresses.{Address, V4, V6, dotted_of, written_of, is_mapped, address_of}

pub record Subnet : Type 0 where
  pub address : Address
  pub prefix : ℕ

-- how many bits an address has
abbrev pub width : Address → ℕ
width (V4 octets) = 32
width (V6 groups) = 128

-- an address as one number
abbrev pub bits_of : Address → ℕ
bits_of (V4 octets) = from_be_bytes w32 octets
bits_of (V6 groups) = from_be_bytes w128 (octets_of groups)

-- the first n bits of an address
abbrev pub first_bits : ℕ → Address → ℕ
first_bits n a = bits_of a / 2 ^ (width a - n)

abbrev pub is_same_family : Address → Address → Bool
is_same_family a b = width a == width b

-- an address is in a subnet of its own family if it begins with the same bits
abbrev pub is_in : Address → Subnet → Bool
is_in a subnet = is_same_family a subnet.address && first_bits subnet.prefix a == first_bits subnet.prefix subnet.address

-- the subnet of one address
abbrev pub host : Address → Subnet
host a = record { address = a; prefix = width a }

-- n ones before zeros, 32 bits in all
abbrev pub netmask : ℕ → ℕ
netmask n = 2 ^ 32 - 2 ^ (32 - n)

abbrev pub mask_below : ℕ → ℕ → Option ℕ
mask_below zero bits = None
mask_below (suc n) bits = if bits == netmask n then Some n else mask_below n bits

-- how many ones a netmask has
unfoldable pub mask_length : ℕ → Option ℕ
mask_length bits = mask_below 33 bits

-- a number of one to three digits, of at most `most`
abbrev pub is_length : ℕ → List ℕ → Bool
is_length most text = nat_lt 0 (length text) && (nat_lt (length text) 4 && (all_ascii_digits text && nat_le (digits_value 10 text) most))

unfoldable pub length_of : ℕ → List ℕ → Option ℕ
length_of most text = if is_length most text then Some (digits_value 10 text) else None

-- how many bits the text behind the slash counts: as a number, or of an IPv4 address also as a netmask
abbrev pub prefix_of : Address → List ℕ → Option ℕ
prefix_of (V4 octets) text = option_or (length_of 32 text) (option_and_then (λ mask. mask_length (from_be_bytes w32 mask)) (dotted_of text))
prefix_of (V6 groups) text = length_of 128 text

-- the text before the first byte `char` and the text after it
unfoldable pub parted_at : ℕ → List ℕ → Option (List ℕ × List ℕ)
parted_at char text = if nat_lt (position_or_len (λ b. b == char) text) (length text) then Some (before_first (λ b. b == char) text, after_first (λ b. b == char) text) else None

-- a subnet that is written with a slash: an IPv4-mapped address has none
abbrev pub slashed : List ℕ → Option Address → Result Subnet NetDenial
slashed text None = Err BadSubnet
slashed text (Some a) = if is_mapped a then Err MappedSubnet else ok_or (option_map (λ n. record { address = a; prefix = n }) (prefix_of a text)) BadSubnet

abbrev pub subnet_at : List ℕ → Option (List ℕ × List ℕ) → Result Subnet NetDenial
subnet_at text None = ok_or (option_map host (address_of text)) BadSubnet
subnet_at text (Some p) = slashed p.1 (written_of p.0)

-- the subnet that a text spells, or why it spells none
unfoldable pub subnet_of : List ℕ → Result Subnet NetDenial
subnet_of text = subnet_at text (parted_at 47 text)

-- the prefix of a subnet is at most the width of its address
abbrev pub IsSubnet : Subnet → Type 0
IsSubnet subnet = subnet.prefix ≤ width subnet.address
