-- Laws of the lists of methods, beside their definition.
use Rattle.std.specs.Prelude.{◌≡◌, ℕ, Bool, true, false, ◌&&◌, List, [], ◌∷◌, ◌++◌, filter, Option, Some, None}
use Rattle.std.specs.List.{list_all}
use Rattle.std.specs.Option.{option_map}
use Rattle.std.specs.Str.{bytes_eq}
use Rattle.gate_rpc.specs.declared.entry.RpcEntry.{RpcEntry}
use Rattle.gate_rpc.specs.Lists.{is_among, is_allowed, list_of}

-- a user whose list lacks a method may not call it, whatever the default is and whatever entries come later
abbrev pub ListsOnlyNarrow : Type 0
ListsOnlyNarrow = (entries more : List RpcEntry) (is_default_on : Bool) (user method : List ℕ) (list : List (List ℕ))
    → list_of entries user ≡ Some list → is_among method list ≡ false
    → is_allowed (record { entries = entries ++ more; is_default_on = is_default_on }) user method ≡ false

abbrev pub entries_of : List ℕ → List RpcEntry → List RpcEntry
entries_of user entries = filter (λ entry. bytes_eq entry.user user) entries

abbrev pub has_methods : Option (List (List ℕ)) → Bool
has_methods None = false
has_methods (Some words) = true

-- an entry without a colon takes no method away
abbrev pub leaves : List ℕ → Option (List (List ℕ)) → Bool
leaves method None = true
leaves method (Some words) = is_among method words

-- whether a user with these entries has a method in the list, if there are any entries: the first has a colon, and each entry
-- with a colon names the method
abbrev pub is_left : List ℕ → List RpcEntry → Option Bool
is_left method [] = None
is_left method (first ∷ others) = Some (has_methods first.methods && list_all (λ entry. leaves method entry.methods) (first ∷ others))

-- a user's list is empty if the first of the user's entries has no colon, and otherwise the intersection of those that have
-- one; there is no list exactly if the user has no entry
abbrev pub ListsAreIntersections : Type 0
ListsAreIntersections = (entries : List RpcEntry) (user method : List ℕ) → option_map (is_among method) (list_of entries user) ≡ is_left method (entries_of user entries)
