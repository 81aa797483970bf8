-- A user's list is the intersection of his entries.
use Rattle.std.proofs.Common.{◌≡◌, ℕ, Bool, true, false, ◌&&◌, List, [], ◌∷◌, filter, Option, Some, None, refl, ap, ◌∙◌}
use Rattle.std.specs.Prelude.{fold}
use Rattle.std.specs.List.{list_all}
use Rattle.std.specs.Option.{option_map}
use Rattle.std.specs.Str.{bytes_eq}
use Rattle.gate_rpc.specs.declared.entry.RpcEntry.{RpcEntry}
use Rattle.gate_rpc.specs.Lists.{is_among, list_with, list_of}
use Rattle.gate_rpc.specs.Laws.{entries_of, leaves, is_left, ListsAreIntersections}
use Rattle.gate_rpc.proofs.Listings.{among_both}

and_true : (a : Bool) → a ≡ (a && true)
and_true true = refl
and_true false = refl

and_and : (a b c : Bool) → ((a && b) && c) ≡ (a && (b && c))
and_and true b c = refl
and_and false b c = refl

-- what is left of a list behind more entries
along : (user method : List ℕ) (list : List (List ℕ)) (entries : List RpcEntry)
    → option_map (is_among method) (fold (list_with user) (Some list) entries) ≡ Some (is_among method list && list_all (λ entry. leaves method entry.methods) (entries_of user entries))
along user method list [] = ap Some (and_true (is_among method list))
along user method list (entry ∷ entries) = by (bytes_eq entry.user user) refl entry.methods refl (λ list. along user method list entries)
  where
    by : (own : Bool) → bytes_eq entry.user user ≡ own → (methods : Option (List (List ℕ))) → entry.methods ≡ methods
        → ((list : List (List ℕ)) → option_map (is_among method) (fold (list_with user) (Some list) entries) ≡ Some (is_among method list && list_all (λ entry. leaves method entry.methods) (entries_of user entries)))
        → option_map (is_among method) (fold (list_with user) (Some list) (entry ∷ entries)) ≡ Some (is_among method list && list_all (λ entry. leaves method entry.methods) (entries_of user (entry ∷ entries)))
    by false other methods is later = rw other (later list)
    by true own None is later = rw (own, is) (later list)
    by true own (Some words) is later =
        rw (own, is) (later (filter (λ method. is_among method words) list)
        ∙ ap (λ b. Some (b && list_all (λ entry. leaves method entry.methods) (entries_of user entries))) (among_both method words list)
        ∙ ap Some (and_and (is_among method list) (is_among method words) _))

pub lists_are_intersections : ListsAreIntersections
lists_are_intersections [] user method = refl
lists_are_intersections (entry ∷ entries) user method = by (bytes_eq entry.user user) refl entry.methods refl (lists_are_intersections entries user method) (λ list. along user method list entries)
  where
    by : (own : Bool) → bytes_eq entry.user user ≡ own → (methods : Option (List (List ℕ))) → entry.methods ≡ methods
        → option_map (is_among method) (list_of entries user) ≡ is_left method (entries_of user entries)
        → ((list : List (List ℕ)) → option_map (is_among method) (fold (list_with user) (Some list) entries) ≡ Some (is_among method list && list_all (λ entry. leaves method entry.methods) (entries_of user entries)))
        → option_map (is_among method) (list_of (entry ∷ entries) user) ≡ is_left method (entries_of user (entry ∷ entries))
    by false other methods is later behind = rw other later
    by true own None is later behind = rw (own, is) (behind [])
    by true own (Some words) is later behind = rw (own, is) (behind words)
