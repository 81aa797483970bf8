-- The definitions at texts from outside, by computation.
use Rattle.std.specs.Prelude.{◌≡◌, ℕ, Bool, true, false, List, [], ◌∷◌, map, Option, Some, None, Result, Ok, Err, codes}
use Rattle.std.specs.Option.{option_map}
use Rattle.gate_rules.specs.declared.NetDenial.{NetDenial}
use Rattle.gate_rules.specs.declared.NetDenial.TheVariants.{UnknownPermission, BadSubnet, MappedSubnet}
use Rattle.gate_net.specs.declared.fault.NetFault.{NetFault}
use Rattle.gate_net.specs.declared.fault.NetFault.TheVariants.{Denied}
use Rattle.gate_net.specs.declared.whitelist.Whitelist.{Whitelist}
use Rattle.gate_net.specs.Addresses.{Address, V4, V6, address_of, address_text}
use Rattle.gate_net.specs.Permissions.{permissions_text}
use Rattle.gate_net.specs.Whitelists.{flags_of, whitelist_of}

-- the address that a text spells, as it is printed
abbrev pub shown : List ℕ → Option (List ℕ)
shown text = option_map address_text (address_of text)

-- RFC 4291, 2.2, and RFC 5952, 1 and 2
pub record AddressTexts : Type 0 where
  pub full : shown (codes "ABCD:EF01:2345:6789:ABCD:EF01:2345:6789") ≡ Some (codes "abcd:ef01:2345:6789:abcd:ef01:2345:6789")
  pub zeros : shown (codes "2001:DB8:0:0:8:800:200C:417A") ≡ Some (codes "2001:db8:0:0:8:800:200c:417a")
  pub middle : shown (codes "2001:DB8::8:800:200C:417A") ≡ Some (codes "2001:db8:0:0:8:800:200c:417a")
  pub multicast : shown (codes "FF01::101") ≡ Some (codes "ff01:0:0:0:0:0:0:101")
  pub loopback : shown (codes "::1") ≡ Some (codes "0:0:0:0:0:0:0:1")
  pub unspecified : shown (codes "::") ≡ Some (codes "0:0:0:0:0:0:0:0")
  pub one_group : shown (codes "2001:db8:0:1:1:1::1") ≡ Some (codes "2001:db8:0:1:1:1:0:1")
  pub leading : shown (codes "2001:0db8::0001") ≡ Some (codes "2001:db8:0:0:0:0:0:1")
  pub embedded : shown (codes "::13.1.68.3") ≡ None
  pub zone : shown (codes "fe80::1%1") ≡ None
  pub twice : shown (codes "1::2::3") ≡ None
  pub nine : shown (codes "1:2:3:4:5:6:7:8::") ≡ None
  pub long : shown (codes "12345::") ≡ None
  pub mapped : shown (codes "::ffff:a01:203") ≡ Some (codes "10.1.2.3")
  pub octal : shown (codes "127.0.0.01") ≡ None
  pub short : shown (codes "127.1") ≡ None

abbrev pub flags_at : List ℕ → Result Whitelist NetFault → Result (Option (List ℕ)) NetFault
flags_at text (Ok whitelist) = Ok (option_map (λ a. permissions_text (flags_of whitelist a)) (address_of text))
flags_at text (Err fault) = Err fault

-- the flags of an address, as they are printed, under entries that give relay if they have no words
abbrev pub flags : List (List ℕ) → List ℕ → Result (Option (List ℕ)) NetFault
flags entries text = flags_at text (whitelist_of entries true false)

pub record EntryTexts : Type 0 where
  pub implicit : flags (codes "noban,,mempool@10.0.0.0/8" ∷ codes "10.1.0.0/16" ∷ []) (codes "10.1.2.3") ≡ Ok (Some (codes "noban,relay,mempool,download"))
  pub united : flags (codes "mempool@192.0.2.1" ∷ codes "download@192.0.2.0/24" ∷ []) (codes "192.0.2.1") ≡ Ok (Some (codes "mempool,download"))
  pub netmask : flags (codes "noban@10.0.0.0/255.0.0.0" ∷ []) (codes "10.1.2.3") ≡ Ok (Some (codes "noban,download"))
  pub outside : flags (codes "noban@10.0.0.0/255.0.0.0" ∷ []) (codes "11.1.2.3") ≡ Ok (Some (codes "none"))
  pub families : flags (codes "mempool@::/0" ∷ codes "addr@0.0.0.0/0" ∷ []) (codes "::ffff:a00:1") ≡ Ok (Some (codes "addr"))
  pub sixth : flags (codes "noban@2001:db8::/32" ∷ codes "@2001:db8::1" ∷ []) (codes "2001:DB8:0:0:0:0:0:1") ≡ Ok (Some (codes "noban,download"))
  pub mapped : flags (codes "addr@::ffff:a01:204" ∷ []) (codes "10.1.2.4") ≡ Ok (Some (codes "addr"))
  pub unknown : flags (codes "nobans@10.0.0.1" ∷ []) (codes "10.0.0.1") ≡ Err (Denied UnknownPermission)
  pub unknown_first : flags (codes "nobans@::ffff:a00:0/junk" ∷ []) (codes "10.0.0.1") ≡ Err (Denied UnknownPermission)
  pub mapped_subnet : flags (codes "noban@::ffff:a00:0/junk" ∷ []) (codes "10.0.0.1") ≡ Err (Denied MappedSubnet)
  pub gap : flags (codes "noban@10.0.0.0/255.0.255.0" ∷ []) (codes "10.0.0.1") ≡ Err (Denied BadSubnet)
  pub great : flags (codes "noban@10.0.0.0/33" ∷ []) (codes "10.0.0.1") ≡ Err (Denied BadSubnet)
