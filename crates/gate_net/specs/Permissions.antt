-- What a peer is permitted (Bitcoin Core 22.0, `-whitelist`): seven flags, those that others bring with them, their words
-- and their text.
use Rattle.std.specs.Prelude.{◌≡◌, ℕ, Bool, true, false, ◌==◌, ◌||◌, if◌then◌else◌, List, [], ◌∷◌, ◌++◌, Option, Some, None, codes}
use Rattle.std.specs.List.{flat_map, slice_split}
use Rattle.std.specs.Option.{option_map, option_and_then}
use Rattle.std.specs.Map.{lookup}
use Rattle.std.specs.Str.{bytes_eq}

pub record Permissions : Type 0 where
  pub bloomfilter : Bool
  pub noban : Bool
  pub forcerelay : Bool
  pub relay : Bool
  pub mempool : Bool
  pub download : Bool
  pub addr : Bool

abbrev pub no_permissions : Permissions
no_permissions = record { bloomfilter = false; noban = false; forcerelay = false; relay = false; mempool = false; download = false; addr = false }

abbrev pub all_permissions : Permissions
all_permissions = record { bloomfilter = true; noban = true; forcerelay = true; relay = true; mempool = true; download = true; addr = true }

-- noban brings download, and forcerelay brings relay
pub record IsComplete (flags : Permissions) : Type 0 where
  pub download : flags.noban ≡ true → flags.download ≡ true
  pub relay : flags.forcerelay ≡ true → flags.relay ≡ true

-- the flags that are set in either
abbrev pub union : Permissions → Permissions → Permissions
union a b = record {
  bloomfilter = a.bloomfilter || b.bloomfilter;
  noban = a.noban || b.noban;
  forcerelay = a.forcerelay || b.forcerelay;
  relay = a.relay || b.relay;
  mempool = a.mempool || b.mempool;
  download = a.download || b.download;
  addr = a.addr || b.addr;
}

abbrev pub union_of : List Permissions → Permissions
union_of [] = no_permissions
union_of (flags ∷ rest) = union flags (union_of rest)

-- the words, each with what it permits; no word permits nothing
abbrev pub words : List (List ℕ × Permissions)
words =
    ([], no_permissions)
    ∷ (codes "bloomfilter", record no_permissions { bloomfilter = true })
    ∷ (codes "bloom", record no_permissions { bloomfilter = true })
    ∷ (codes "noban", record no_permissions { noban = true; download = true })
    ∷ (codes "forcerelay", record no_permissions { forcerelay = true; relay = true })
    ∷ (codes "relay", record no_permissions { relay = true })
    ∷ (codes "mempool", record no_permissions { mempool = true })
    ∷ (codes "download", record no_permissions { download = true })
    ∷ (codes "addr", record no_permissions { addr = true })
    ∷ (codes "all", all_permissions)
    ∷ []

-- what a word permits, if it is one of the words
unfoldable pub permitted_by : List ℕ → Option Permissions
permitted_by word = lookup (bytes_eq word) words

abbrev pub permitted_together : List (List ℕ) → Option Permissions
permitted_together [] = Some no_permissions
permitted_together (word ∷ rest) = option_and_then (λ flags. option_map (union flags) (permitted_together rest)) (permitted_by word)

-- what the words between the commas of a text permit together, if each is one of the words
abbrev pub permissions_of : List ℕ → Option Permissions
permissions_of text = permitted_together (slice_split (λ char. char == 44) text)

-- what entries without words give, by whether the whitelist gives them relay, and forcerelay with relay
abbrev pub implicit_by : Bool → Bool → Permissions
implicit_by relay forcerelay = record {
  bloomfilter = false;
  noban = true;
  forcerelay = forcerelay;
  relay = relay || forcerelay;
  mempool = true;
  download = true;
  addr = false;
}

abbrev pub named : Bool → List ℕ → List (List ℕ)
named is_set name = if is_set then name ∷ [] else []

-- the names of the flags that are set, in the order in which they are printed
abbrev pub names_of : Permissions → List (List ℕ)
names_of flags =
    named flags.bloomfilter (codes "bloomfilter")
    ++ named flags.noban (codes "noban")
    ++ named flags.forcerelay (codes "forcerelay")
    ++ named flags.relay (codes "relay")
    ++ named flags.mempool (codes "mempool")
    ++ named flags.download (codes "download")
    ++ named flags.addr (codes "addr")

-- the names with a comma between each two; without any, `none`
abbrev pub joined : List (List ℕ) → List ℕ
joined [] = codes "none"
joined (name ∷ names) = name ++ flat_map (λ n. codes "," ++ n) names

abbrev pub permissions_text : Permissions → List ℕ
permissions_text flags = joined (names_of flags)
