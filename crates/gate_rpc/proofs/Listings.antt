-- One pass over the entries tells what a user's list has.
use Rattle.std.proofs.Common.{◌≡◌, ℕ, ◌≤◌, length, take, not, Bool, true, false, cond, ◌&&◌, List, [], ◌∷◌, Option, Some, None, refl, sym, ap, ◌∙◌}
use Rattle.std.specs.Prelude.{filter, fold}
use Rattle.std.specs.Option.{option_map, unwrap_or}
use Rattle.std.proofs.lemmas.List.{take_all}
use Rattle.std.specs.Str.{bytes_eq}
use Rattle.std.specs.Cmp.Lexicographic.{bytes_decides}
use Rattle.std.proofs.lemmas.Map.Views.{any-filter_same}
use Rattle.gate_rpc.specs.declared.entry.RpcEntry.{RpcEntry}
use Rattle.gate_rpc.specs.Lists.{Lists, is_among, list_after, list_with, list_of, is_listed, is_allowed}
use Rattle.gate_rpc.specs.Listing.{listed_after, listed_with}

and_commutes : (a b : Bool) → (a && b) ≡ (b && a)
and_commutes true true = refl
and_commutes true false = refl
and_commutes false true = refl
and_commutes false false = refl

-- an intersection has what both have
pub among_both : (method : List ℕ) (words list : List (List ℕ)) → is_among method (filter (λ m. is_among m words) list) ≡ (is_among method list && is_among method words)
among_both method words list =
    any-filter_same (bytes_eq method) (λ m. is_among m words) (is_among method words) (λ m same. ap (λ k. is_among k words) (sym ((bytes_decides method m).0 same))) list
    ∙ and_commutes (is_among method words) (is_among method list)

after_entry : (method : List ℕ) (list methods : Option (List (List ℕ))) → listed_after method (option_map (is_among method) list) methods ≡ option_map (is_among method) (list_after list methods)
after_entry method None None = refl
after_entry method None (Some words) = refl
after_entry method (Some list) None = refl
after_entry method (Some list) (Some words) = ap Some (sym (among_both method words list))

with_entry : (user method : List ℕ) (list : Option (List (List ℕ))) (entry : RpcEntry) (b : Bool) → bytes_eq entry.user user ≡ b
    → cond b (listed_after method (option_map (is_among method) list) entry.methods) (option_map (is_among method) list) ≡ option_map (is_among method) (cond b (list_after list entry.methods) list)
with_entry user method list entry true e = after_entry method list entry.methods
with_entry user method list entry false e = refl

along : (user method : List ℕ) (list : Option (List (List ℕ))) (entries : List RpcEntry)
    → fold (listed_with user method) (option_map (is_among method) list) entries ≡ option_map (is_among method) (fold (list_with user) list entries)
along user method list [] = refl
along user method list (entry ∷ entries) =
    ap (λ b. fold (listed_with user method) b entries) (with_entry user method list entry (bytes_eq entry.user user) refl)
    ∙ along user method (list_with user list entry) entries

listed_is_list : (user method : List ℕ) (entries : List RpcEntry) → fold (listed_with user method) None entries ≡ option_map (is_among method) (list_of entries user)
listed_is_list user method entries = along user method None entries

told : (is_default_on : Bool) (list : Option (List (List ℕ))) (method : List ℕ) → unwrap_or (option_map (is_among method) list) (not is_default_on) ≡ is_listed is_default_on list method
told is_default_on None method = refl
told is_default_on (Some list) method = refl

-- what the pass tells at its end
pub allowed : (lists : Lists) (user method : List ℕ) (entries : List RpcEntry) (i : ℕ) (listed : Option Bool) → entries ≡ lists.entries → length entries ≤ i → listed ≡ fold (listed_with user method) None (take i entries)
    → unwrap_or listed (not lists.is_default_on) ≡ is_allowed lists user method
allowed lists user method entries i listed all end e =
    ap (λ l. unwrap_or l (not lists.is_default_on)) (e ∙ ap (fold (listed_with user method) None) (take_all i entries end ∙ all) ∙ listed_is_list user method lists.entries)
    ∙ told lists.is_default_on (list_of lists.entries user) method
