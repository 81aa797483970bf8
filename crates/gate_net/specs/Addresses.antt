-- Addresses and the texts that spell them: IPv4 as four decimal numbers with dots between them (RFC 3986, IPv4address),
-- IPv6 as groups of hexadecimal digits with colons between them (RFC 4291, 2.2), without a dotted end.
use Rattle.std.specs.Prelude.{ℕ, ◌+◌, ◌-◌, Bool, false, ◌==◌, ◌&&◌, nat_lt, nat_le, if◌then◌else◌, List, [], ◌∷◌, ◌++◌, length, take, drop, replicate, map, slice_index, Option, Some, None}
use Rattle.std.specs.List.{slice_split, list_all, join_with_byte}
use Rattle.std.specs.Option.{option_map, option_and_then, option_or}
use Rattle.std.specs.Str.{bytes_eq}
use Rattle.std.specs.Str.Parse.{digits_value}
use Rattle.std.specs.Char.{is_digit}
use Rattle.std.specs.Fmt.{decimal, digits}
use Rattle.std.specs.declared.net.ip_addr.IpAddr.{IpAddr}
use Rattle.std.specs.declared.net.ip_addr.IpAddr.TheVariants as Ip
use Rattle.std.specs.Net.Addr.{ipv4_octets, ipv6_segments, octets_of}
use Rattle.std.specs.Net.Text.{ipv4_text}

-- four numbers of one byte, or eight of two bytes, as printed from the left
pub data Address : Type 0 where
  V4 : (octets : List ℕ) → Address
  V6 : (groups : List ℕ) → Address

-- a number of one byte, as it is printed
abbrev pub is_octet : List ℕ → Bool
is_octet part = nat_lt (digits_value 10 part) 256 && bytes_eq part (decimal (digits_value 10 part))

abbrev pub four : List (List ℕ) → Option (List ℕ)
four [] = None
four (a ∷ []) = None
four (a ∷ b ∷ []) = None
four (a ∷ b ∷ c ∷ []) = None
four (a ∷ b ∷ c ∷ d ∷ []) =
    if is_octet a && (is_octet b && (is_octet c && is_octet d))
    then Some (digits_value 10 a ∷ digits_value 10 b ∷ digits_value 10 c ∷ digits_value 10 d ∷ [])
    else None
four (a ∷ b ∷ c ∷ d ∷ e ∷ parts) = None

-- the octets of an IPv4 text
unfoldable pub dotted_of : List ℕ → Option (List ℕ)
dotted_of text = four (slice_split (λ char. char == 46) text)

-- one to four hexadecimal digits
abbrev pub is_group : List ℕ → Bool
is_group part = nat_lt 0 (length part) && (nat_le (length part) 4 && list_all (λ char. is_digit char 16) part)

abbrev pub numbers_of : List (List ℕ) → Option (List ℕ)
numbers_of parts = if list_all is_group parts then Some (map (digits_value 16) parts) else None

-- the groups that stand between the colons of a text; an empty text has none
abbrev pub groups_of : List ℕ → Option (List ℕ)
groups_of [] = Some []
groups_of (char ∷ text) = numbers_of (slice_split (λ c. c == 58) (char ∷ text))

abbrev pub begins_with_colon : List ℕ → Bool
begins_with_colon text = slice_index text 0 == 58

-- the text before the first double colon, and the text after it
abbrev pub elided : List ℕ → Option (List ℕ × List ℕ)
elided [] = None
elided (char ∷ text) =
    if char == 58 && begins_with_colon text
    then Some ([], drop 1 text)
    else option_map (λ p. (char ∷ p.0, p.1)) (elided text)

abbrev pub eight : List ℕ → Option (List ℕ)
eight groups = if length groups == 8 then Some groups else None

-- eight groups: the first and the last of them, with one or more zeros between
abbrev pub filled : List ℕ → List ℕ → Option (List ℕ)
filled head tail = if nat_lt (length head + length tail) 8 then Some (head ++ replicate (8 - length head - length tail) 0 ++ tail) else None

abbrev pub colon_hex : List ℕ → Option (List ℕ × List ℕ) → Option (List ℕ)
colon_hex text None = option_and_then eight (groups_of text)
colon_hex text (Some p) = option_and_then (λ head. option_and_then (λ tail. filled head tail) (groups_of p.1)) (groups_of p.0)

-- the groups of an IPv6 text
unfoldable pub colon_hex_of : List ℕ → Option (List ℕ)
colon_hex_of text = colon_hex text (elided text)

-- the address as it is written
unfoldable pub written_of : List ℕ → Option Address
written_of text = option_or (option_map V4 (dotted_of text)) (option_map V6 (colon_hex_of text))

-- an IPv6 address in ::ffff:0:0/96
abbrev pub is_mapped : Address → Bool
is_mapped (V4 octets) = false
is_mapped (V6 groups) = bytes_eq (take 6 groups) (0 ∷ 0 ∷ 0 ∷ 0 ∷ 0 ∷ 0xffff ∷ [])

abbrev pub inner : Address → Address
inner (V4 octets) = V4 octets
inner (V6 groups) = V4 (octets_of (drop 6 groups))

-- an IPv4-mapped IPv6 address is its IPv4 address
abbrev pub canonical : Address → Address
canonical a = if is_mapped a then inner a else a

-- the address that a text spells
abbrev pub address_of : List ℕ → Option Address
address_of text = option_map canonical (written_of text)

-- the one text that is printed for an address: of an IPv6 address all eight groups, in lower case without leading zeros
abbrev pub address_text : Address → List ℕ
address_text (V4 octets) = ipv4_text octets
address_text (V6 groups) = join_with_byte 58 (map (digits 16 false) groups)

-- what the standard library's addresses stand for, and back
abbrev pub seen : IpAddr → Address
seen (Ip.V4 a) = V4 (ipv4_octets a)
seen (Ip.V6 a) = V6 (ipv6_segments a)

abbrev pub kept : Address → IpAddr
kept (V4 octets) = Ip.V4 (record { octets = octets })
kept (V6 groups) = Ip.V6 (record { segments = groups })
