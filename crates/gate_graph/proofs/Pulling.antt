-- Nodes that are pulled out, and the lists of what names what.
use Rattle.std.proofs.Common.{◌≡◌, ℕ, ◌<◌, ◌≤◌, Bool, true, false, not, ◌&&◌, ◌||◌, cond, List, [], ◌∷◌, ◌++◌, length, Option, Some, None, refl, sym, ap, ◌∙◌, subst, inl, inr, arith, true≢false}
use Rattle.std.specs.Prelude.{Contains, filter, find}
use Rattle.std.specs.List.{cons_option}
use Rattle.std.specs.Str.{bytes_eq}
use Rattle.std.specs.Cmp.Lexicographic.{bytes_decides}
use Rattle.std.proofs.lemmas.Bool.{not-true, false_from_ne_true}
use Rattle.std.proofs.lemmas.List.Elements.{filter_map-append, Contains-append_cases, Contains-append_left, Contains-append_right}
use Rattle.gate_graph.specs.Family.{steps_of}
use Rattle.gate_graph.specs.Families.{among, are_apart}
use Rattle.gate_bytes.proofs.Members.{Contains-cons_cases, Contains-head, not_in_none}
use Rattle.gate_graph.proofs.Apart.{among-push, are_apart-filter}
use Rattle.gate_graph.proofs.Steps.{step_node, node_step}
use Rattle.gate_graph.proofs.Filters.{filter_same_on, filter-map, filter_all, Contains-filter, Contains-from_filter}
use Rattle.gate_graph.specs.declared.held.Gone.{Gone}
use Rattle.gate_graph.specs.declared.held.Held.{Held}
use Rattle.gate_graph.specs.Holding.{has_id, node_of, nodes_of, left_of, gone_from, all_gone}
use Rattle.gate_graph.specs.Linking.{Lists, IsLinked, IsWithout, AreWithout, listing}
use Rattle.gate_graph.proofs.Leaving.{filter_filter}
use Rattle.gate_graph.proofs.Holdings.{up_listed}

abbrev Id : Type 0
Id = List ℕ

-- one list more is without the id
pub AreWithout-none : (child : Id) (lists : Lists) → AreWithout [] child lists lists
AreWithout-none child lists = record { fewer = λ a b c. c; still = λ a b c. inl c; gone = λ a c. not_in_none a c }

pub AreWithout-more : (parents : List Id) (p child : Id) (before mid after : Lists) → AreWithout parents child before mid → IsWithout p child mid after → AreWithout (parents ++ p ∷ []) child before after
AreWithout-more parents p child before mid after w o = record {
  fewer = λ a b c. w.fewer a b (o.fewer a b c);
  still = λ a b c.
      elim (w.still a b c) [
        | inl m ↦ elim (o.still a b m) [ inl k ↦ inl k | inr q ↦ inr (Contains-append_right parents (p ∷ []) a (subst (Contains (p ∷ [])) (sym q.0) (Contains-head p [])), q.1) ]
        | inr q ↦ inr (Contains-append_left parents (p ∷ []) a q.0, q.1)
      ];
  gone = λ a c k.
      elim (Contains-append_cases parents (p ∷ []) a c) [
        | inl old ↦ w.gone a old (o.fewer a child k)
        | inr new ↦ elim (Contains-cons_cases p [] a new) [ inl e ↦ o.gone (subst (λ z. Contains (listing after z) child) (sym e) k) | inr none ↦ not_in_none a none ]
      ];
}

module _ {T : Type 0} (hs : List (Held T)) (x : Id) where
  abbrev others : Held T → Bool
  others h = not (has_id h x)

  nodes_pulled : nodes_of (filter others hs) ≡ filter (λ n. not (bytes_eq n.id x)) (nodes_of hs)
  nodes_pulled = sym (filter-map node_of (λ n. not (bytes_eq n.id x)) hs)

  -- a node that is pulled out takes the steps to it with it
  pub IsLinked-pulled : (h : Held T) (before after : Lists) → are_apart (nodes_of hs) ≡ true → find (λ h. has_id h x) hs ≡ Some h → IsLinked (nodes_of hs) before → AreWithout h.parents.items x before after → IsLinked (nodes_of (filter others hs)) after
  IsLinked-pulled h before after apart e l w = record {
    linked = λ a b. (
      (λ c.
          let s = (l.linked a b).0 (w.fewer a b c) in
          let v = step_node (nodes_of hs) a b s in
          let ne : bytes_eq v.0.id x ≡ true → ⊥ = λ t.
          let same : b ≡ x = sym v.2 ∙ (bytes_decides v.0.id x).0 t in
          w.gone a (up_listed hs x h apart e a (subst (λ z. Contains (steps_of (nodes_of hs)) (a, z)) same s)) (subst (λ z. Contains (listing after a) z) same c) in
          subst (λ l. Contains (steps_of l) (a, b)) (sym nodes_pulled)
          (subst (λ z. Contains (steps_of (filter (λ n. not (bytes_eq n.id x)) (nodes_of hs))) (a, z)) v.2
          (node_step (filter (λ n. not (bytes_eq n.id x)) (nodes_of hs)) v.0 a (Contains-filter (λ n. not (bytes_eq n.id x)) (nodes_of hs) v.0 v.1 (ap not (false_from_ne_true _ ne))) v.3))),
      (λ s.
          let v = step_node (filter (λ n. not (bytes_eq n.id x)) (nodes_of hs)) a b (subst (λ l. Contains (steps_of l) (a, b)) nodes_pulled s) in
          let u = Contains-from_filter (λ n. not (bytes_eq n.id x)) (nodes_of hs) v.0 v.1 in
          let old = subst (λ z. Contains (steps_of (nodes_of hs)) (a, z)) v.2 (node_step (nodes_of hs) v.0 a u.0 v.3) in
          elim (w.still a b ((l.linked a b).1 old)) [
            | inl k ↦ k
            | inr q ↦ absurd (true≢false (sym ((bytes_decides v.0.id x).1 (v.2 ∙ q.1)) ∙ not-true _ u.1))
          ]),
    );
  }

  pub none_there : find (λ h. has_id h x) hs ≡ None → filter others hs ≡ hs
  none_there e = go hs e
    where
      go : (hs : List (Held T)) → find (λ h. has_id h x) hs ≡ None → filter (λ h. not (has_id h x)) hs ≡ hs
      go [] e = refl
      go (h ∷ hs) e = at (bytes_eq h.id x) e (go hs)
        where
          at : (b : Bool) → cond b (Some h) (find (λ h. has_id h x) hs) ≡ None → (find (λ h. has_id h x) hs ≡ None → filter (λ h. not (has_id h x)) hs ≡ hs) → cond (not b) (h ∷ filter (λ h. not (has_id h x)) hs) (filter (λ h. not (has_id h x)) hs) ≡ h ∷ hs
          at true e ih = cc
          at false e ih = ap (λ l. h ∷ l) (ih e)

  pub pulled_fewer : (h : Held T) → find (λ h. has_id h x) hs ≡ Some h → length (filter others hs) < length hs
  pulled_fewer h e = go hs e
    where
      le : (hs : List (Held T)) → length (filter (λ h. not (has_id h x)) hs) ≤ length hs
      le [] = omega arith
      le (k ∷ hs) = at (not (bytes_eq k.id x)) (le hs)
        where
          at : (b : Bool) → length (filter (λ h. not (has_id h x)) hs) ≤ length hs → length (cond b (k ∷ filter (λ h. not (has_id h x)) hs) (filter (λ h. not (has_id h x)) hs)) ≤ length (k ∷ hs)
          at true l = omega (arith, l)
          at false l = omega (arith, l)

      go : (hs : List (Held T)) → find (λ h. has_id h x) hs ≡ Some h → length (filter (λ h. not (has_id h x)) hs) < length hs
      go [] e = cc
      go (k ∷ hs) e = at (bytes_eq k.id x) e (go hs)
        where
          at : (b : Bool) → cond b (Some k) (find (λ h. has_id h x) hs) ≡ Some h → (find (λ h. has_id h x) hs ≡ Some h → length (filter (λ h. not (has_id h x)) hs) < length hs)
              → length (cond (not b) (k ∷ filter (λ h. not (has_id h x)) hs) (filter (λ h. not (has_id h x)) hs)) < length (k ∷ hs)
          at true e ih = omega (arith, le hs)
          at false e ih = omega (arith, ih e)

  pub pulled_apart : are_apart (nodes_of hs) ≡ true → are_apart (nodes_of (filter others hs)) ≡ true
  pulled_apart a = ap are_apart nodes_pulled ∙ are_apart-filter (λ n. not (bytes_eq n.id x)) (nodes_of hs) a

not_or : (a b : Bool) → (not b && not a) ≡ not (a || b)
not_or true true = refl
not_or true false = refl
not_or false true = refl
not_or false false = refl

module _ {T : Type 0} (hs : List (Held T)) where
  pub left_none : hs ≡ left_of [] hs
  left_none = sym (filter_all (λ (h : Held T). not (among [] h.id)) hs (λ h c. refl))

  -- one more is pulled out
  pub left_more : (ids : List Id) (x : Id) → filter (λ h. not (has_id h x)) (left_of ids hs) ≡ left_of (ids ++ x ∷ []) hs
  left_more ids x =
      filter_filter (λ (h : Held T). not (has_id h x)) (λ (h : Held T). not (among ids h.id)) hs
      ∙ filter_same_on (λ (h : Held T). not (has_id h x) && not (among ids h.id)) (λ (h : Held T). not (among (ids ++ x ∷ []) h.id)) hs (λ h c. not_or (among ids h.id) (bytes_eq h.id x) ∙ ap not (sym (among-push ids x h.id)))

  pub find_left : (ids : List Id) (x : Id) → among ids x ≡ false → find (λ h. has_id h x) (left_of ids hs) ≡ find (λ h. has_id h x) hs
  find_left ids x new = go hs
    where
      go : (hs : List (Held T)) → find (λ h. has_id h x) (left_of ids hs) ≡ find (λ h. has_id h x) hs
      go [] = refl
      go (h ∷ hs) = at (among ids h.id) (bytes_eq h.id x) refl refl (go hs)
        where
          at : (a b : Bool) → among ids h.id ≡ a → bytes_eq h.id x ≡ b → find (λ h. has_id h x) (left_of ids hs) ≡ find (λ h. has_id h x) hs
              → find (λ h. has_id h x) (cond (not a) (h ∷ left_of ids hs) (left_of ids hs)) ≡ cond b (Some h) (find (λ h. has_id h x) hs)
          at true true s t ih = absurd (true≢false (sym s ∙ ap (among ids) ((bytes_decides h.id x).0 t) ∙ new))
          at true false s t ih = ih
          at false b s t ih = ap (λ c. cond c (Some h) (find (λ h. has_id h x) (left_of ids hs))) t ∙ ap (cond b (Some h)) ih

  -- what one more place gives, while what is left is searched
  pub gone_more : (spots : List (Option Id)) (places : List ℕ) (p : ℕ) (x : Gone T) → gone_from spots hs p ≡ Some x → all_gone spots hs places ++ x ∷ [] ≡ all_gone spots hs (places ++ p ∷ [])
  gone_more spots places p x e = ap (λ o. all_gone spots hs places ++ cons_option o []) (sym e) ∙ sym (filter_map-append (gone_from spots hs) places (p ∷ []))

  pub left_apart : (ids : List Id) → are_apart (nodes_of hs) ≡ true → are_apart (nodes_of (left_of ids hs)) ≡ true
  left_apart ids a = ap are_apart (sym (filter-map node_of (λ n. not (among ids n.id)) hs)) ∙ are_apart-filter (λ n. not (among ids n.id)) (nodes_of hs) a
