-- Later entries never widen a list.
use Rattle.std.proofs.Common.{◌≡◌, ℕ, Bool, true, false, cond, ◌&&◌, List, [], ◌∷◌, ◌++◌, Option, Some, None, refl, ap, ◌∙◌}
use Rattle.std.specs.Prelude.{fold}
use Rattle.std.specs.Str.{bytes_eq}
use Rattle.gate_rpc.specs.declared.entry.RpcEntry.{RpcEntry}
use Rattle.gate_rpc.specs.Lists.{is_among, is_listed, list_after, list_with}
use Rattle.gate_rpc.specs.Laws.{ListsOnlyNarrow}
use Rattle.gate_rpc.proofs.Listings.{among_both}

-- a list without the method
abbrev Lacks : List ℕ → Option (List (List ℕ)) → Type 0
Lacks method None = ⊥
Lacks method (Some list) = is_among method list ≡ false

lacks_after : (method : List ℕ) (list methods : Option (List (List ℕ))) → Lacks method list → Lacks method (list_after list methods)
lacks_after method None methods h = absurd h
lacks_after method (Some list) None h = h
lacks_after method (Some list) (Some words) h = among_both method words list ∙ ap (λ b. b && is_among method words) h

lacks_with : (user method : List ℕ) (list : Option (List (List ℕ))) (entry : RpcEntry) (b : Bool) → Lacks method list → Lacks method (cond b (list_after list entry.methods) list)
lacks_with user method list entry true h = lacks_after method list entry.methods h
lacks_with user method list entry false h = h

lacks_along : (user method : List ℕ) (list : Option (List (List ℕ))) (more : List RpcEntry) → Lacks method list → Lacks method (fold (list_with user) list more)
lacks_along user method list [] h = h
lacks_along user method list (entry ∷ more) h = lacks_along user method (list_with user list entry) more (lacks_with user method list entry (bytes_eq entry.user user) h)

not_listed : (is_default_on : Bool) (method : List ℕ) (list : Option (List (List ℕ))) → Lacks method list → is_listed is_default_on list method ≡ false
not_listed is_default_on method None h = absurd h
not_listed is_default_on method (Some list) h = h

fold_on : (user : List ℕ) (list : Option (List (List ℕ))) (entries more : List RpcEntry) → fold (list_with user) list (entries ++ more) ≡ fold (list_with user) (fold (list_with user) list entries) more
fold_on user list [] more = refl
fold_on user list (entry ∷ entries) more = fold_on user (list_with user list entry) entries more

pub lists_only_narrow : ListsOnlyNarrow
lists_only_narrow entries more is_default_on user method list has lacks =
    ap (λ l. is_listed is_default_on l method) (fold_on user None entries more ∙ ap (λ l. fold (list_with user) l more) has)
    ∙ not_listed is_default_on method _ (lacks_along user method (Some list) more lacks)
