-- The texts of subnets by their grammar: an address alone, or an address, a slash and how many of its first bits count
-- (RFC 4632), of an IPv4 address also as a netmask.
use Rattle.std.specs.Prelude.{◌≡◌, ◌↔◌, ◌⊎◌, ℕ, ◌<◌, ◌≤◌, Bool, true, false, ◌==◌, List, ◌∷◌, ◌++◌, length, Ok, Err}
use Rattle.std.specs.List.{list_any}
use Rattle.std.specs.Int.{w32, from_be_bytes}
use Rattle.std.specs.Str.{all_ascii_digits}
use Rattle.std.specs.Str.Parse.{digits_value}
use Rattle.std.specs.Net.Grammar.{IsDotted}
use Rattle.gate_rules.specs.declared.NetDenial.TheVariants.{MappedSubnet}
use Rattle.gate_net.specs.Addresses.{Address, V4, V6, is_mapped, canonical}
use Rattle.gate_net.specs.Spelling.{Spells}
use Rattle.gate_net.specs.Subnets.{Subnet, host, netmask, subnet_of}

abbrev pub has_slash : List ℕ → Bool
has_slash text = list_any (λ char. char == 47) text

-- one to three digits, which may begin with zeros, whose number n is at most `most`
abbrev pub IsLength : ℕ → List ℕ → ℕ → Type 0
IsLength most text n = (0 < length text) × (length text < 4) × (all_ascii_digits text ≡ true) × (digits_value 10 text ≡ n) × (n ≤ most)

-- the dotted text of n ones before zeros
abbrev pub IsNetmask : List ℕ → ℕ → Type 0
IsNetmask text n = (octets : List ℕ) × IsDotted text octets × (from_be_bytes w32 octets ≡ netmask n) × (n ≤ 32)

-- the text behind the slash says that the first n bits of this address count
abbrev pub SpellsLength : Address → List ℕ → ℕ → Type 0
SpellsLength (V4 octets) text n = IsLength 32 text n ⊎ IsNetmask text n
SpellsLength (V6 groups) text n = IsLength 128 text n

-- the text is that of one address
abbrev pub SpellsHost : List ℕ → Subnet → Type 0
SpellsHost text subnet = (has_slash text ≡ false) × ((written : Address) × Spells text written × (subnet ≡ host (canonical written)))

-- the text has `left` before its first slash, and `right` behind it
abbrev pub IsParted : List ℕ → List ℕ → List ℕ → Type 0
IsParted text left right = (text ≡ left ++ 47 ∷ right) × (has_slash left ≡ false)

-- the text is that of an address with the number of its first bits that count
abbrev pub SpellsRange : List ℕ → Subnet → Type 0
SpellsRange text subnet =
    (left : List ℕ) × (right : List ℕ) × IsParted text left right
    × Spells left subnet.address × (is_mapped subnet.address ≡ false) × SpellsLength subnet.address right subnet.prefix

-- a text is read as a subnet exactly if it spells that subnet
abbrev pub SubnetsAreSpelled : Type 0
SubnetsAreSpelled = (text : List ℕ) (subnet : Subnet) → (subnet_of text ≡ Ok subnet) ↔ (SpellsHost text subnet ⊎ SpellsRange text subnet)

-- N3 is named exactly if an IPv4-mapped address stands before the slash
abbrev pub MappedSubnetsAreTold : Type 0
MappedSubnetsAreTold =
    (text : List ℕ) → (subnet_of text ≡ Err MappedSubnet)
    ↔ ((left : List ℕ) × (right : List ℕ) × IsParted text left right × ((written : Address) × Spells left written × (is_mapped written ≡ true)))
