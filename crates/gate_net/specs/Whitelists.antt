-- Whitelists: which flags the addresses of which subnets have (Bitcoin Core 22.0, `-whitelist`).
use Rattle.std.specs.Prelude.{ℕ, Bool, true, false, if◌then◌else◌, List, [], ◌∷◌, map, Option, Some, None, Result, Ok, Err}
use Rattle.std.specs.List.{filter, list_any}
use Rattle.gate_rules.specs.declared.NetDenial.{NetDenial}
use Rattle.gate_rules.specs.declared.NetDenial.TheVariants.{UnknownPermission}
use Rattle.gate_net.specs.declared.fault.NetFault.{NetFault}
use Rattle.gate_net.specs.declared.fault.NetFault.TheVariants.{Denied}
use Rattle.gate_net.specs.declared.entry.WhitelistEntry.{WhitelistEntry}
use Rattle.gate_net.specs.declared.whitelist.Whitelist.{Whitelist}
use Rattle.gate_net.specs.Addresses.{Address}
use Rattle.gate_net.specs.Subnets.{Subnet, subnet_of, parted_at, is_in}
use Rattle.gate_net.specs.Permissions.{Permissions, no_permissions, union, union_of, permissions_of, implicit_by}

abbrev pub granting : Permissions → Bool → Result Subnet NetDenial → Result WhitelistEntry NetDenial
granting permissions is_implicit (Ok subnet) = Ok (record { permissions = permissions; is_implicit = is_implicit; subnet = subnet })
granting permissions is_implicit (Err denial) = Err denial

-- an entry with words before its subnet: the words are read first
abbrev pub worded : Option Permissions → List ℕ → Result WhitelistEntry NetDenial
worded None text = Err UnknownPermission
worded (Some permissions) text = granting permissions false (subnet_of text)

abbrev pub entry_at : List ℕ → Option (List ℕ × List ℕ) → Result WhitelistEntry NetDenial
entry_at text None = granting no_permissions true (subnet_of text)
entry_at text (Some p) = worded (permissions_of p.0) p.1

-- the entry that a text spells, parted at its first `@`, or the first rule that it breaks
unfoldable pub entry_of : List ℕ → Result WhitelistEntry NetDenial
entry_of text = entry_at text (parted_at 64 text)

abbrev pub in_front : Result WhitelistEntry NetDenial → Result (List WhitelistEntry) NetDenial → Result (List WhitelistEntry) NetDenial
in_front (Err denial) rest = Err denial
in_front (Ok entry) (Err denial) = Err denial
in_front (Ok entry) (Ok entries) = Ok (entry ∷ entries)

-- the entries that texts spell, or what is wrong with the first that spells no entry
abbrev pub entries_of : List (List ℕ) → Result (List WhitelistEntry) NetDenial
entries_of [] = Ok []
entries_of (text ∷ texts) = in_front (entry_of text) (entries_of texts)

abbrev pub matching : Address → List WhitelistEntry → List WhitelistEntry
matching a entries = filter (λ entry. is_in a entry.subnet) entries

abbrev pub own_flags : WhitelistEntry → Permissions
own_flags entry = entry.permissions

abbrev pub is_implicit : WhitelistEntry → Bool
is_implicit entry = entry.is_implicit

-- what entries without words give
abbrev pub implicit_flags : Whitelist → Permissions
implicit_flags whitelist = implicit_by whitelist.relay whitelist.forcerelay

-- the union over all entries whose subnet has the address; those without words count once, at the end
unfoldable pub flags_of : Whitelist → Address → Permissions
flags_of whitelist a =
    union (union_of (map own_flags (matching a whitelist.entries)))
    (if list_any is_implicit (matching a whitelist.entries) then implicit_flags whitelist else no_permissions)

abbrev pub whitelisted : Bool → Bool → Result (List WhitelistEntry) NetDenial → Result Whitelist NetFault
whitelisted relay forcerelay (Ok entries) = Ok (record { entries = entries; relay = relay; forcerelay = forcerelay })
whitelisted relay forcerelay (Err denial) = Err (Denied denial)

-- the whitelist that texts spell, or what is wrong with the first that spells no entry
abbrev pub whitelist_of : List (List ℕ) → Bool → Bool → Result Whitelist NetFault
whitelist_of texts relay forcerelay = whitelisted relay forcerelay (entries_of texts)
