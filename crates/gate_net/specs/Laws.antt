-- What holds of the flags of an address, whatever the whitelist.
use Rattle.std.specs.Prelude.{◌≡◌, Bool, true, ◌&&◌, ◌||◌, List}
use Rattle.std.specs.List.{list_any, Contains}
use Rattle.gate_net.specs.declared.entry.WhitelistEntry.{WhitelistEntry}
use Rattle.gate_net.specs.declared.whitelist.Whitelist.{Whitelist}
use Rattle.gate_net.specs.Addresses.{Address}
use Rattle.gate_net.specs.Subnets.{is_in}
use Rattle.gate_net.specs.Permissions.{Permissions}
use Rattle.gate_net.specs.Whitelists.{implicit_flags, flags_of}

pub data Flag : Type 0 where
  Bloomfilter Noban Forcerelay Relay Mempool Download Addr : Flag

abbrev pub has : Flag → Permissions → Bool
has Bloomfilter flags = flags.bloomfilter
has Noban flags = flags.noban
has Forcerelay flags = flags.forcerelay
has Relay flags = flags.relay
has Mempool flags = flags.mempool
has Download flags = flags.download
has Addr flags = flags.addr

-- whether an entry of this whitelist gives the flag to the addresses of its subnet
abbrev pub gives : Whitelist → Flag → WhitelistEntry → Bool
gives whitelist flag entry = has flag entry.permissions || (entry.is_implicit && has flag (implicit_flags whitelist))

-- an address has a flag exactly if an entry whose subnet has the address gives the flag
abbrev pub FlagsAreGiven : Type 0
FlagsAreGiven = (whitelist : Whitelist) (a : Address) (flag : Flag) → has flag (flags_of whitelist a) ≡ list_any (λ entry. is_in a entry.subnet && gives whitelist flag entry) whitelist.entries

-- with more entries, in whatever order, no address loses a flag
abbrev pub EntriesTakeNothing : Type 0
EntriesTakeNothing =
    (whitelist : Whitelist) (more : List WhitelistEntry) (a : Address) (flag : Flag)
    → ((entry : WhitelistEntry) → Contains whitelist.entries entry → Contains more entry)
    → has flag (flags_of whitelist a) ≡ true
    → has flag (flags_of (record whitelist { entries = more }) a) ≡ true
