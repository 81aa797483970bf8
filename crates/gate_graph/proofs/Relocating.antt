-- A node that is moved to a hole.
use Rattle.std.proofs.Common.{◌≡◌, ◌≢◌, ℕ, zero, suc, ◌<◌, true, false, cond, List, [], ◌∷◌, ◌++◌, length, Option, Some, None, refl, sym, ap, ◌∙◌, subst, map, inl, inr, arith, true≢false}
use Rattle.std.specs.Prelude.{slice_set, sum_by}
use Rattle.std.specs.Option.{option_map}
use Rattle.std.specs.Str.{bytes_eq}
use Rattle.std.specs.List.Sorted.{IsPermutation}
use Rattle.std.proofs.lemmas.List.Sorted.{IsPermutation-refl, IsPermutation-trans, IsPermutation-cons, IsPermutation-swap, length_permutation, IsPermutation-map, sum_by-IsPermutation}
use Rattle.std.proofs.lemmas.Option.{none-some, same_Some}
use Rattle.std.proofs.lemmas.Bool.{cases_Bool, cases_eq, false_from_ne_true}
use Rattle.std.proofs.lemmas.List.{get_or-set_other, length-set}
use Rattle.gate_ranking.specs.Rate.{Fraction}
use Rattle.gate_graph.specs.declared.held.Held.{Held}
use Rattle.gate_graph.specs.Slots.{entries_of, at, passes}
use Rattle.gate_graph.specs.Holding.{has_id, node_of, nodes_of, spots_of, IsPlaced}
use Rattle.gate_graph.specs.Ranks.{rate_of}
use Rattle.gate_graph.proofs.Placing.{spots_of-set}

module _ {E : Type 0} where
  -- what is written at a place stands there
  pub set_at : (slots : List (Option E)) (i : ℕ) (o : Option E) → i < length slots → at (slice_set slots i o) i ≡ o
  set_at [] i o lt = absurd (omega (arith, lt))
  set_at (s ∷ slots) zero o lt = refl
  set_at (s ∷ slots) (suc i) o lt = set_at slots i o (omega (arith, lt))

  turned : (x y : E) (es : List E) → IsPermutation (x ∷ y ∷ es) (y ∷ x ∷ es)
  turned x y es = IsPermutation-swap (x ∷ y ∷ es) (y ∷ x ∷ es) 0 1 (omega arith) (omega arith) refl

  -- what stands at a place comes out
  pub emptied : (slots : List (Option E)) (i : ℕ) (e : E) → at slots i ≡ Some e → IsPermutation (entries_of slots) (e ∷ entries_of (slice_set slots i None))
  emptied [] i e here = absurd (none-some e here)
  emptied (None ∷ slots) zero e here = absurd (none-some e here)
  emptied (Some x ∷ slots) zero e here = subst (λ y. IsPermutation (x ∷ entries_of slots) (y ∷ entries_of slots)) (same_Some x e here) (IsPermutation-refl (x ∷ entries_of slots))
  emptied (None ∷ slots) (suc i) e here = emptied slots i e here
  emptied (Some x ∷ slots) (suc i) e here =
      let rest = entries_of (slice_set slots i None) in
      IsPermutation-trans (x ∷ entries_of slots) (x ∷ e ∷ rest) (e ∷ x ∷ rest) (IsPermutation-cons x (entries_of slots) (e ∷ rest) (emptied slots i e here)) (turned x e rest)

  -- and stands in a hole
  pub filled : (slots : List (Option E)) (i : ℕ) (e : E) → at slots i ≡ None → i < length slots → IsPermutation (e ∷ entries_of slots) (entries_of (slice_set slots i (Some e)))
  filled [] i e hole lt = absurd (omega (arith, lt))
  filled (None ∷ slots) zero e hole lt = IsPermutation-refl (e ∷ entries_of slots)
  filled (Some x ∷ slots) zero e hole lt = absurd (none-some x (sym hole))
  filled (None ∷ slots) (suc i) e hole lt = filled slots i e hole (omega (arith, lt))
  filled (Some x ∷ slots) (suc i) e hole lt =
      let rest = entries_of slots in
      let more = entries_of (slice_set slots i (Some e)) in
      IsPermutation-trans (e ∷ x ∷ rest) (x ∷ e ∷ rest) (x ∷ more) (turned e x rest) (IsPermutation-cons x (e ∷ rest) more (filled slots i e hole (omega (arith, lt))))

-- what was put at the end and goes to a hole leaves a hole at the end
pub put_in_hole : {E : Type 0} (slots : List (Option E)) (place end : ℕ) (o : Option E) → end ≡ length slots → place < length slots → slice_set (slice_set (slots ++ o ∷ []) end None) place (at (slots ++ o ∷ []) end) ≡ slice_set slots place o ++ None ∷ []
put_in_hole {E} slots place end o e lt =
    ap (λ n. slice_set (slice_set (slots ++ o ∷ []) n None) place (at (slots ++ o ∷ []) n)) e
    ∙ ap (λ l. slice_set l place (at (slots ++ o ∷ []) (length slots))) (cleared slots) ∙ ap (slice_set (slots ++ None ∷ []) place) (last slots) ∙ written slots place lt
  where
    cleared : (s : List (Option E)) → slice_set (s ++ o ∷ []) (length s) None ≡ s ++ None ∷ []
    cleared [] = refl
    cleared (x ∷ s) = ap (λ l. x ∷ l) (cleared s)

    last : (s : List (Option E)) → at (s ++ o ∷ []) (length s) ≡ o
    last [] = refl
    last (x ∷ s) = last s

    written : (s : List (Option E)) (p : ℕ) → p < length s → slice_set (s ++ None ∷ []) p o ≡ slice_set s p o ++ None ∷ []
    written [] p lt = absurd (omega (arith, lt))
    written (x ∷ s) zero lt = refl
    written (x ∷ s) (suc p) lt = ap (λ l. x ∷ l) (written s p (omega (arith, lt)))

-- where no id stands, no node does
pub no_node : {T : Type 0} (slots : List (Option (Held T))) (i : ℕ) → at (spots_of slots) i ≡ None → at slots i ≡ None
no_node [] i e = refl
no_node (None ∷ slots) zero e = refl
no_node (Some h ∷ slots) zero e = absurd (none-some h.id (sym e))
no_node (s ∷ slots) (suc i) e = no_node slots i e

-- slots of which the node at one place was moved to another
module _ {T : Type 0} (slots : List (Option (Held T))) (from to : ℕ) (h : Held T) (stands : at slots from ≡ Some h) (hole : at slots to ≡ None) (within : to < length slots) where
  abbrev left : List (Option (Held T))
  left = slice_set slots from None

  abbrev pub moved : List (Option (Held T))
  moved = slice_set left to (Some h)

  other : to ≢ from
  other e = none-some h (sym hole ∙ ap (at slots) e ∙ stands)

  still_hole : at left to ≡ None
  still_hole = get_or-set_other slots from to None None other ∙ hole

  left_within : to < length left
  left_within = omega (arith, within, length-set slots from None)

  pub moved_permutes : IsPermutation (entries_of slots) (entries_of moved)
  moved_permutes = IsPermutation-trans (entries_of slots) (h ∷ entries_of left) (entries_of moved) (emptied slots from h stands) (filled left to h still_hole left_within)

  pub moved_placed : (n n' : ℕ) (look look' : List ℕ → Option ℕ) → IsPlaced slots n look → n' ≡ n → ((k : List ℕ) → look' k ≡ cond (bytes_eq h.id k) (Some to) (look k)) → IsPlaced moved n' look'
  moved_placed n n' look look' p same is = record {
    places = record { sound = sound; whole = whole };
    count = same ∙ p.count ∙ sym (length_permutation (entries_of slots) (entries_of moved) moved_permutes);
  }
    where
      mine : (k : List ℕ) → bytes_eq h.id k ≡ true → look' k ≡ Some to
      mine k t = is k ∙ ap (λ b. cond b (Some to) (look k)) t

      others : (k : List ℕ) → bytes_eq h.id k ≡ false → look' k ≡ look k
      others k t = is k ∙ ap (λ b. cond b (Some to) (look k)) t

      here : at moved to ≡ Some h
      here = set_at left to (Some h) left_within

      away : (i : ℕ) → i ≢ from → i ≢ to → at moved i ≡ at slots i
      away i f t = get_or-set_other left to i (Some h) None t ∙ get_or-set_other slots from i None None f

      gone : at moved from ≡ None
      gone = get_or-set_other left to from (Some h) None (λ e. other (sym e)) ∙ set_at slots from None (stands_in slots from stands)
        where
          stands_in : (s : List (Option (Held T))) (i : ℕ) → at s i ≡ Some h → i < length s
          stands_in [] i e = absurd (none-some h e)
          stands_in (x ∷ s) zero e = omega arith
          stands_in (x ∷ s) (suc i) e = omega (arith, stands_in s i e)

      sound : (k : List ℕ) (i : ℕ) → look' k ≡ Some i → passes (λ e. has_id e k) (at moved i) ≡ true
      sound k i l =
          elim (cases_Bool (bytes_eq h.id k)) [
            | inl t ↦
                let same_place : to ≡ i = same_Some to i (sym (mine k t) ∙ l) in
                ap (λ j. passes (λ e. has_id e k) (at moved j)) (sym same_place) ∙ ap (passes (λ e. has_id e k)) here ∙ t
            | inr t ↦
                let was = p.places.sound k i (sym (others k t) ∙ l) in
                ap (passes (λ e. has_id e k))
                (away i
                (λ e. true≢false (sym was ∙ ap (λ j. passes (λ e. has_id e k) (at slots j)) e ∙ ap (passes (λ e. has_id e k)) stands ∙ t))
                (λ e. true≢false (sym was ∙ ap (λ j. passes (λ e. has_id e k) (at slots j)) e ∙ ap (passes (λ e. has_id e k)) hole)))
                ∙ was
          ]

      whole : (k : List ℕ) (i : ℕ) → passes (λ e. has_id e k) (at moved i) ≡ true → look' k ≡ Some i
      whole k i h' =
          elim (cases_eq i to) [
            | inl e ↦
                mine k (sym (ap (passes (λ e. has_id e k)) (ap (at moved) e ∙ here)) ∙ h') ∙ ap Some (sym e)
            | inr t ↦
                elim (cases_eq i from) [
                  | inl e ↦ absurd (true≢false (sym h' ∙ ap (passes (λ e. has_id e k)) (ap (at moved) e ∙ gone)))
                  | inr f ↦
                      let found : look k ≡ Some i = p.places.whole k i (sym (ap (passes (λ e. has_id e k)) (away i f t)) ∙ h') in
                      others k (false_from_ne_true _ (λ m. f (same_Some i from (sym found ∙ p.places.whole k from (ap (passes (λ e. has_id e k)) stands ∙ m))))) ∙ found
                ]
          ]

  pub moved_keys : (rate : Fraction) (keys keys1 keys2 : List (Option Fraction)) → keys ≡ map (option_map rate_of) slots → rate ≡ rate_of h → keys1 ≡ slice_set keys from None → keys2 ≡ slice_set keys1 to (Some rate) → keys2 ≡ map (option_map rate_of) moved
  moved_keys rate keys keys1 keys2 old is one two =
      two ∙ ap (λ l. slice_set l to (Some rate)) (one ∙ ap (λ l. slice_set l from None) old ∙ sym (keys_set slots from None))
      ∙ ap (λ r. slice_set (map (option_map rate_of) left) to (Some r)) is ∙ sym (keys_set left to (Some h))
    where
      keys_set : (s : List (Option (Held T))) (i : ℕ) (o : Option (Held T)) → map (option_map rate_of) (slice_set s i o) ≡ slice_set (map (option_map rate_of) s) i (option_map rate_of o)
      keys_set [] i o = refl
      keys_set (x ∷ s) zero o = refl
      keys_set (x ∷ s) (suc i) o = ap (λ l. option_map rate_of x ∷ l) (keys_set s i o)

  pub moved_spots : spots_of moved ≡ slice_set (slice_set (spots_of slots) from None) to (Some h.id)
  moved_spots = spots_of-set left to (Some h) ∙ ap (λ l. slice_set l to (Some h.id)) (spots_of-set slots from None)

  pub moved_sum : sum_by (λ n. n.size) (nodes_of (entries_of moved)) ≡ sum_by (λ n. n.size) (nodes_of (entries_of slots))
  moved_sum = sum_by-IsPermutation (λ n. n.size) (nodes_of (entries_of slots)) (nodes_of (entries_of moved)) (IsPermutation-map node_of (entries_of slots) (entries_of moved) moved_permutes)
