-- The texts of addresses by the grammars of the standards, and that no other texts are read.
use Rattle.std.specs.Prelude.{◌≡◌, ◌↔◌, ℕ, ◌<◌, Bool, false, ◌==◌, List, length, Some}
use Rattle.std.specs.List.{list_any, AllByRecursion}
use Rattle.std.specs.Net.Grammar.{IsDotted, IsColonHex}
use Rattle.gate_net.specs.Addresses.{Address, V4, V6, is_mapped, canonical, written_of, address_of, address_text}

abbrev pub has_dot : List ℕ → Bool
has_dot text = list_any (λ char. char == 46) text

-- the text spells this address, as written
abbrev pub Spells : List ℕ → Address → Type 0
Spells text (V4 octets) = IsDotted text octets
Spells text (V6 groups) = IsColonHex text groups × (has_dot text ≡ false)

-- what an address is made of
abbrev pub IsAddress : Address → Type 0
IsAddress (V4 octets) = (length octets ≡ 4) × AllByRecursion (λ n. n < 256) octets
IsAddress (V6 groups) = (length groups ≡ 8) × AllByRecursion (λ n. n < 65536) groups × (is_mapped (V6 groups) ≡ false)

-- a text is read as an address exactly if it spells that address; an IPv4-mapped one is read as its IPv4 address
abbrev pub AddressesAreSpelled : Type 0
AddressesAreSpelled = (text : List ℕ) (a : Address) → (address_of text ≡ Some a) ↔ ((written : Address) × Spells text written × (a ≡ canonical written))

-- what is printed for an address is read as that address
abbrev pub AddressesReadBack : Type 0
AddressesReadBack = (a : Address) → IsAddress a → address_of (address_text a) ≡ Some a
