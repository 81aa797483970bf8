-- Nodes that are held, found by their ids.
use Rattle.std.proofs.Common.{◌≡◌, ℕ, Bool, true, false, cond, not, ◌||◌, List, [], ◌∷◌, Some, is_some, refl, sym, ap, ◌∙◌, subst, true≢false}
use Rattle.std.specs.Prelude.{find, Contains}
use Rattle.std.specs.List.{list_all}
use Rattle.std.specs.Str.{bytes_eq}
use Rattle.std.specs.Cmp.Lexicographic.{bytes_decides}
use Rattle.std.proofs.lemmas.Option.{none-some, same_Some}
use Rattle.gate_graph.specs.Family.{Node, steps_of}
use Rattle.gate_graph.proofs.Steps.{step_node, node_step}
use Rattle.gate_graph.proofs.Apart.{one_node, all_listed}
use Rattle.gate_graph.proofs.Filters.{Contains-map}
use Rattle.gate_graph.specs.Families.{has, are_apart}
use Rattle.gate_bytes.proofs.Members.{Contains-head, Contains-rest}
use Rattle.gate_graph.specs.declared.held.Held.{Held}
use Rattle.gate_graph.specs.Holding.{has_id, node_of, nodes_of}

abbrev Id : Type 0
Id = List ℕ

module _ {T : Type 0} where
  pub found_has : (hs : List (Held T)) (x : Id) → is_some (find (λ h. has_id h x) hs) ≡ has (nodes_of hs) x
  found_has [] x = refl
  found_has (h ∷ hs) x = go (bytes_eq h.id x) (found_has hs x)
    where
      go : (b : Bool) → is_some (find (λ h. has_id h x) hs) ≡ has (nodes_of hs) x → is_some (cond b (Some h) (find (λ h. has_id h x) hs)) ≡ (b || has (nodes_of hs) x)
      go true e = refl
      go false e = e

  pub find_is : (hs : List (Held T)) (x : Id) (h : Held T) → find (λ h. has_id h x) hs ≡ Some h → Contains hs h × (h.id ≡ x)
  find_is [] x h e = absurd (none-some h e)
  find_is (k ∷ hs) x h e = go (bytes_eq k.id x) refl e (find_is hs x h)
    where
      go : (b : Bool) → bytes_eq k.id x ≡ b → cond b (Some k) (find (λ h. has_id h x) hs) ≡ Some h → (find (λ h. has_id h x) hs ≡ Some h → Contains hs h × (h.id ≡ x)) → Contains (k ∷ hs) h × (h.id ≡ x)
      go true t e ih =
          let same = same_Some k h e in
          (subst (Contains (k ∷ hs)) same (Contains-head k hs), ap (λ (z : Held T). z.id) (sym same) ∙ (bytes_decides k.id x).0 t)
      go false t e ih = let w = ih e in (Contains-rest k hs h w.0, w.1)

  pub node_in : (hs : List (Held T)) (h : Held T) → Contains hs h → Contains (nodes_of hs) (node_of h)
  node_in hs h c = Contains-map node_of hs h c

  -- the parents of what is found are those to which steps lead up
  pub up_next : (hs : List (Held T)) (x : Id) (h : Held T) → find (λ h. has_id h x) hs ≡ Some h → (b : Id) → Contains h.parents.items b → Contains (steps_of (nodes_of hs)) (b, x)
  up_next hs x h e b c = let w = find_is hs x h e in subst (λ z. Contains (steps_of (nodes_of hs)) (b, z)) w.1 (node_step (nodes_of hs) (node_of h) b (node_in hs h w.0) c)

  pub up_listed : (hs : List (Held T)) (x : Id) (h : Held T) → are_apart (nodes_of hs) ≡ true → find (λ h. has_id h x) hs ≡ Some h → (b : Id) → Contains (steps_of (nodes_of hs)) (b, x) → Contains h.parents.items b
  up_listed hs x h a e b s =
      let w = find_is hs x h e in
      let v = step_node (nodes_of hs) b x s in
      subst (λ (m : Node). Contains m.parents b) (one_node (nodes_of hs) v.0 (node_of h) a v.1 (node_in hs h w.0) (v.2 ∙ sym w.1)) v.3

  -- a node of which each parent is no node names none
  pub names_no_node : (hs : List (Held T)) (x : Id) (h : Held T) → are_apart (nodes_of hs) ≡ true → find (λ h. has_id h x) hs ≡ Some h → list_all (λ p. not (has (nodes_of hs) p)) h.parents.items ≡ true
      → (a : Id) → has (nodes_of hs) a ≡ true → Contains (steps_of (nodes_of hs)) (a, x) → ⊥
  names_no_node hs x h apart e all a there s =
      true≢false (sym (all_listed (λ p. not (has (nodes_of hs) p)) h.parents.items a all (up_listed hs x h apart e a s)) ∙ ap not there)
