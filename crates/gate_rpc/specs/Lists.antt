-- Which methods a user may call (`-rpcwhitelist` and `-rpcwhitelistdefault` of Bitcoin Core 22.0).
use Rattle.std.specs.Prelude.{ℕ, nat_lt, ◌==◌, ◌||◌, not, if◌then◌else◌, Bool, true, false, List, [], ◌∷◌, length, filter, fold, Option, Some, None}
use Rattle.std.specs.List.{list_any, slice_split, position_or_len, before_first, after_first}
use Rattle.std.specs.Str.{bytes_eq}
use Rattle.gate_rpc.specs.declared.entry.RpcEntry.{RpcEntry}

-- a comma or a space
abbrev pub is_separator : ℕ → Bool
is_separator b = (b == 44) || (b == 32)

-- the words of a text, divided at commas and spaces
abbrev pub words_of : List ℕ → List (List ℕ)
words_of text = slice_split is_separator text

-- `user:words`, divided at the first colon; without a colon all of it is the user
abbrev pub entry_of : List ℕ → RpcEntry
entry_of text =
    if nat_lt (position_or_len (λ b. b == 58) text) (length text)
    then record { user = before_first (λ b. b == 58) text; methods = Some (words_of (after_first (λ b. b == 58) text)) }
    else record { user = text; methods = None }

-- the entries in their order, and whether a user without a list may call nothing
pub record Lists : Type 0 where
  pub entries : List RpcEntry
  pub is_default_on : Bool

-- the default as it is given; a default that isn't given is on if there are entries
abbrev pub default_of : Option Bool → List (List ℕ) → Bool
default_of (Some given) texts = given
default_of None [] = false
default_of None (text ∷ texts) = true

abbrev pub is_among : List ℕ → List (List ℕ) → Bool
is_among method list = list_any (bytes_eq method) list

-- a user's list after one more of the user's entries: the first makes it, empty without a colon; a later entry with a colon
-- is intersected with it, and a later entry without a colon changes nothing
abbrev pub list_after : Option (List (List ℕ)) → Option (List (List ℕ)) → Option (List (List ℕ))
list_after None None = Some []
list_after None (Some words) = Some words
list_after (Some list) None = Some list
list_after (Some list) (Some words) = Some (filter (λ method. is_among method words) list)

abbrev pub list_with : List ℕ → Option (List (List ℕ)) → RpcEntry → Option (List (List ℕ))
list_with user list entry = if bytes_eq entry.user user then list_after list entry.methods else list

-- a user's list, if there is one
abbrev pub list_of : List RpcEntry → List ℕ → Option (List (List ℕ))
list_of entries user = fold (list_with user) None entries

abbrev pub is_listed : Bool → Option (List (List ℕ)) → List ℕ → Bool
is_listed is_default_on (Some list) method = is_among method list
is_listed is_default_on None method = not is_default_on

-- whether a user may call a method
abbrev pub is_allowed : Lists → List ℕ → List ℕ → Bool
is_allowed lists user method = is_listed lists.is_default_on (list_of lists.entries user) method
