-- How the slots and their index follow what is written and taken.
use Rattle.std.proofs.Common.{is_some, ◌≡◌, ℕ, zero, suc, ◌+◌, Bool, true, false, cond, not, List, [], ◌∷◌, ◌++◌, length, length-append, Option, Some, None, refl, sym, ap, ◌∙◌, subst, map, inl, inr, arith, true≢false}
use Rattle.std.specs.Prelude.{find, filter, slice_set}
use Rattle.std.specs.Option.{option_map, unwrap_or}
use Rattle.std.specs.Str.{bytes_eq}
use Rattle.std.specs.Cmp.Lexicographic.{bytes_decides}
use Rattle.std.proofs.lemmas.Option.{none-some, same_Some}
use Rattle.std.proofs.lemmas.Bool.{false_from_ne_true, cases_eq, or_parts, cond-false}
use Rattle.std.proofs.lemmas.List.{get_or-set_other}
use Rattle.gate_graph.specs.declared.held.Held.{Held}
use Rattle.gate_graph.specs.declared.held.Totals.{Totals}
use Rattle.gate_graph.specs.Slots.{entries_of, at, passes, Indexes}
use Rattle.gate_graph.specs.Holding.{has_id, id_at, spots_of, at_id, with_totals, nodes_of, IsPlaced}
use Rattle.gate_graph.specs.Families.{has, ids_of}
use Rattle.gate_graph.proofs.Holdings.{found_has}
use Rattle.gate_graph.proofs.Indexing.{searched, unknown, Indexes-push, entries_of-push, only_place, IsOnly, entries_of-take, length-take_one, Indexes-take}

abbrev Id : Type 0
Id = List ℕ

module _ {E : Type 0} (test : E → Bool) (f : E → E) where
  -- a change of what passes, where nothing does
  none_changed : (slots : List (Option E)) → ((j : ℕ) → passes test (at slots j) ≡ false) → map (λ e. cond (test e) (f e) e) (entries_of slots) ≡ entries_of slots
  none_changed [] h = refl
  none_changed (None ∷ slots) h = none_changed slots (λ j. h (suc j))
  none_changed (Some e ∷ slots) h = λ i. cond (h 0 i) (f e) e ∷ none_changed slots (λ j. h (suc j)) i

  -- what passes at one place alone is changed there
  pub entries_of-write : (slots : List (Option E)) (i : ℕ) → passes test (at slots i) ≡ true → IsOnly test slots i → entries_of (slice_set slots i (option_map f (at slots i))) ≡ map (λ e. cond (test e) (f e) e) (entries_of slots)
  entries_of-write [] i h u = absurd (true≢false (sym h))
  entries_of-write (None ∷ slots) zero h u = absurd (true≢false (sym h))
  entries_of-write (None ∷ slots) (suc i) h u = entries_of-write slots i h (λ j p. omega (arith, u (suc j) p))
  entries_of-write (Some e ∷ slots) zero h u =
      λ i. cond (sym h i) (f e) e ∷ sym (none_changed slots (λ j. false_from_ne_true _ (λ p. absurd (omega (arith, u (suc j) p))))) i
  entries_of-write (Some e ∷ slots) (suc i) h u =
      let no : test e ≡ false = false_from_ne_true _ (λ p. absurd (omega (arith, u 0 p))) in
      λ k. cond (sym no k) (f e) e ∷ entries_of-write slots i h (λ j p. omega (arith, u (suc j) p)) k

  pub length-changed : (es : List E) → length (map (λ e. cond (test e) (f e) e) es) ≡ length es
  length-changed [] = refl
  length-changed (e ∷ es) = ap suc (length-changed es)

module _ {E : Type 0} where
  pub written_at : (slots : List (Option E)) (i : ℕ) (f : E → E) → at (slice_set slots i (option_map f (at slots i))) i ≡ option_map f (at slots i)
  written_at [] i f = refl
  written_at (x ∷ slots) zero f = refl
  written_at (x ∷ slots) (suc i) f = written_at slots i f

module _ {E K : Type 0} {has : E → K → Bool} {slots : List (Option E)} {look : K → Option ℕ} where
  -- a write that keeps the keys keeps the index
  pub Indexes-write : (f : E → E) (i : ℕ) → ((e : E) (k : K) → has (f e) k ≡ has e k) → Indexes has slots look → Indexes has (slice_set slots i (option_map f (at slots i))) look
  Indexes-write f i same h = record {
    sound = λ k j l. passes_same k j ∙ h.sound k j l;
    whole = λ k j p. h.whole k j (sym (passes_same k j) ∙ p);
  }
    where
      mapped : (k : K) (o : Option E) → passes (λ e. has e k) (option_map f o) ≡ passes (λ e. has e k) o
      mapped k None = refl
      mapped k (Some e) = same e k

      passes_same : (k : K) (j : ℕ) → passes (λ e. has e k) (at (slice_set slots i (option_map f (at slots i))) j) ≡ passes (λ e. has e k) (at slots j)
      passes_same k j =
          elim (cases_eq j i) [
            | inl e ↦
                ap (λ m. passes (λ e. has e k) (at (slice_set slots i (option_map f (at slots i))) m)) e
                ∙ ap (passes (λ e. has e k)) (written_at slots i f)
                ∙ mapped k (at slots i)
                ∙ ap (λ m. passes (λ e. has e k) (at slots m)) (sym e)
            | inr n ↦ ap (passes (λ e. has e k)) (get_or-set_other slots i j (option_map f (at slots i)) None n)
          ]

module _ {T : Type 0} {slots : List (Option (Held T))} {n : ℕ} {look : Id → Option ℕ} (h : IsPlaced slots n look) where
  -- the totals of the node at a place are written
  pub held_written : (x : Id) (i : ℕ) (totals : Totals) (slots' : List (Option (Held T))) → look x ≡ Some i → slots' ≡ slice_set slots i (option_map (with_totals totals) (at slots i)) → entries_of slots' ≡ map (at_id x (with_totals totals)) (entries_of slots)
  held_written x i totals slots' l is = ap entries_of is ∙ entries_of-write (λ e. has_id e x) (with_totals totals) slots i (h.places.sound x i l) (only_place h.places x i l)

  pub IsPlaced-written : (x : Id) (i : ℕ) (totals : Totals) (slots' : List (Option (Held T))) → look x ≡ Some i → slots' ≡ slice_set slots i (option_map (with_totals totals) (at slots i)) → IsPlaced slots' n look
  IsPlaced-written x i totals slots' l is = record {
    places = subst (λ s. Indexes has_id s look) (sym is) (Indexes-write (with_totals totals) i (λ e k. refl) h.places);
    count = h.count ∙ sym (ap length (held_written x i totals slots' l is) ∙ length-changed (λ e. has_id e x) (with_totals totals) (entries_of slots));
  }

  -- the node at a place
  pub held_at : (x : Id) (i : ℕ) → look x ≡ Some i → (e : Held T) × (at slots i ≡ Some e) × (e.id ≡ x)
  held_at x i l = by (at slots i) (h.places.sound x i l)
    where
      by : (o : Option (Held T)) → passes (λ e. has_id e x) o ≡ true → (e : Held T) × (o ≡ Some e) × (e.id ≡ x)
      by None p = absurd (true≢false (sym p))
      by (Some e) p = (e, refl, (bytes_decides e.id x).0 p)

  pub held_taken : (x : Id) (i : ℕ) (slots' : List (Option (Held T))) → look x ≡ Some i → slots' ≡ slice_set slots i None → entries_of slots' ≡ filter (λ e. not (has_id e x)) (entries_of slots)
  held_taken x i slots' l is = ap entries_of is ∙ entries_of-take (λ e. has_id e x) slots i (h.places.sound x i l) (only_place h.places x i l)

  pub IsPlaced-taken : (x : Id) (i : ℕ) (slots' : List (Option (Held T))) (n' : ℕ) (look' : Id → Option ℕ) → look x ≡ Some i → slots' ≡ slice_set slots i None → ((k : Id) → look' k ≡ cond (bytes_eq x k) None (look k)) → n' + 1 ≡ n → IsPlaced slots' n' look'
  IsPlaced-taken x i slots' n' look' l is less fewer =
      let w = held_at x i l in
      record {
        places = subst (λ s. Indexes has_id s look') (sym is) (Indexes-take w.0 i h.places w.1 (λ k. less k ∙ ap (λ y. cond (bytes_eq y k) None (look k)) (sym w.2)));
        count = omega (arith, fewer, h.count, length-take_one slots i w.0 w.1, ap (λ s. length (entries_of s)) is);
      }

-- a new node is put at the end
pub IsPlaced-put : {T : Type 0} {slots : List (Option (Held T))} {n : ℕ} {look : Id → Option ℕ} (e : Held T) (place : ℕ) (slots' : List (Option (Held T))) (n' : ℕ) (look' : Id → Option ℕ) → IsPlaced slots n look
    → has (nodes_of (entries_of slots)) e.id ≡ false → place ≡ length slots → slots' ≡ slots ++ Some e ∷ [] → ((k : Id) → look' k ≡ cond (bytes_eq e.id k) (Some place) (look k)) → (look e.id ≡ None → n' ≡ n + 1) → IsPlaced slots' n' look'
IsPlaced-put {T} {slots} {n} {look} e place slots' n' look' h new end is put more =
    let absent : look e.id ≡ None = unknown h.places e.id (absent_found (entries_of slots) e.id new) in
    record {
      places = subst (λ s. Indexes has_id s look') (sym is) (Indexes-push e h.places
          (λ k t. ap look (sym ((bytes_decides e.id k).0 t)) ∙ absent)
          (λ k. put k ∙ ap (λ p. cond (bytes_eq e.id k) (Some p) (look k)) end));
      count = omega (arith, more absent, h.count, length-append (entries_of slots) (e ∷ []), ap length (entries_of-push slots e), ap (λ s. length (entries_of s)) is);
    }
  where
    absent_found : (hs : List (Held T)) (x : Id) → has (nodes_of hs) x ≡ false → find (λ h. has_id h x) hs ≡ None
    absent_found [] x h = refl
    absent_found (k ∷ hs) x h =
        let q = or_parts _ _ h in
        cond-false (bytes_eq k.id x) (Some k) (find (λ h. has_id h x) hs) q.0 ∙ absent_found hs x q.1

-- which id stands where
module _ {T : Type 0} where
  pub spot_is : (slots : List (Option (Held T))) (i : ℕ) → at (spots_of slots) i ≡ option_map (λ h. h.id) (at slots i)
  spot_is [] i = refl
  spot_is (s ∷ slots) zero = refl
  spot_is (s ∷ slots) (suc i) = spot_is slots i

  pub spots_of-set : (slots : List (Option (Held T))) (i : ℕ) (s : Option (Held T)) → spots_of (slice_set slots i s) ≡ slice_set (spots_of slots) i (option_map (λ h. h.id) s)
  spots_of-set [] i s = refl
  spots_of-set (x ∷ slots) zero s = refl
  spots_of-set (x ∷ slots) (suc i) s = ap (λ l. option_map (λ h. h.id) x ∷ l) (spots_of-set slots i s)

  pub spots_of-push : (slots : List (Option (Held T))) (s : Option (Held T)) → spots_of (slots ++ s ∷ []) ≡ spots_of slots ++ option_map (λ h. h.id) s ∷ []
  spots_of-push [] s = refl
  spots_of-push (x ∷ slots) s = ap (λ l. option_map (λ h. h.id) x ∷ l) (spots_of-push slots s)

  pub spots_of-write : (slots : List (Option (Held T))) (i : ℕ) (totals : Totals) → spots_of (slice_set slots i (option_map (with_totals totals) (at slots i))) ≡ spots_of slots
  spots_of-write [] i totals = refl
  spots_of-write (None ∷ slots) zero totals = refl
  spots_of-write (Some h ∷ slots) zero totals = refl
  spots_of-write (x ∷ slots) (suc i) totals = ap (λ l. option_map (λ h. h.id) x ∷ l) (spots_of-write slots i totals)

  pub length-spots : (slots : List (Option (Held T))) → length (spots_of slots) ≡ length slots
  length-spots [] = refl
  length-spots (x ∷ slots) = ap suc (length-spots slots)

  -- something stands there
  pub slot_filled : (slots : List (Option (Held T))) (i : ℕ) → is_some (at (spots_of slots) i) ≡ true → is_some (at slots i) ≡ true
  slot_filled slots i s = by (at slots i) (ap is_some (sym (spot_is slots i)) ∙ s)
    where
      by : (o : Option (Held T)) → is_some (option_map (λ h. h.id) o) ≡ true → is_some o ≡ true
      by None s = s
      by (Some h) s = refl

pub spot_some : (spots : List (Option Id)) (i : ℕ) → is_some (at spots i) ≡ true → at spots i ≡ Some (id_at spots i)
spot_some spots i s = by (at spots i) s
  where
    by : (o : Option Id) → is_some o ≡ true → o ≡ Some (unwrap_or o [])
    by None s = absurd (true≢false (sym s))
    by (Some x) s = refl

module _ {T : Type 0} {slots : List (Option (Held T))} {n : ℕ} {look : Id → Option ℕ} (h : IsPlaced slots n look) where
  pub place_sound : (x : Id) (i : ℕ) → look x ≡ Some i → at (spots_of slots) i ≡ Some x
  place_sound x i l =
      let w = held_at h x i l in
      spot_is slots i ∙ ap (option_map (λ h. h.id)) w.1 ∙ ap Some w.2

  pub place_whole : (x : Id) (i : ℕ) → at (spots_of slots) i ≡ Some x → look x ≡ Some i
  place_whole x i s = h.places.whole x i (by (at slots i) (sym (spot_is slots i) ∙ s))
    where
      by : (o : Option (Held T)) → option_map (λ h. h.id) o ≡ Some x → passes (λ e. has_id e x) o ≡ true
      by None s = absurd (none-some x s)
      by (Some e) s = (bytes_decides e.id x).1 (same_Some e.id x s)

  -- what stands at a place is found there
  pub place_look : (i : ℕ) → is_some (at (spots_of slots) i) ≡ true → look (id_at (spots_of slots) i) ≡ Some i
  place_look i s = place_whole (id_at (spots_of slots) i) i (spot_some (spots_of slots) i s)

  pub found_at : (i : ℕ) → is_some (at (spots_of slots) i) ≡ true → find (λ e. has_id e (id_at (spots_of slots) i)) (entries_of slots) ≡ at slots i
  found_at i s = let x = id_at (spots_of slots) i in sym (searched h.places x (Some i) (sym (place_look i s)))

  pub known_has : (x : Id) → is_some (look x) ≡ has (nodes_of (entries_of slots)) x
  known_has x = by (look x) refl ∙ found_has (entries_of slots) x
    where
      by : (o : Option ℕ) → o ≡ look x → is_some (look x) ≡ is_some (find (λ e. has_id e x) (entries_of slots))
      by None l = ap is_some (sym l) ∙ ap is_some (searched h.places x None l)
      by (Some i) l =
          let w = held_at h x i (sym l) in
          ap is_some (sym l) ∙ ap is_some (sym w.1) ∙ ap is_some (searched h.places x (Some i) l)

-- a change that keeps the ids
module _ {T : Type 0} (f : Held T → Held T) (same : (e : Held T) → (f e).id ≡ e.id) where
  module _ {slots : List (Option (Held T))} {n : ℕ} {look : Id → Option ℕ} (h : IsPlaced slots n look) (x : Id) (i : ℕ) (slots' : List (Option (Held T))) (l : look x ≡ Some i) (is : slots' ≡ slice_set slots i (option_map f (at slots i))) where
    pub held_changed : entries_of slots' ≡ map (at_id x f) (entries_of slots)
    held_changed = ap entries_of is ∙ entries_of-write (λ e. has_id e x) f slots i (h.places.sound x i l) (only_place h.places x i l)

    pub IsPlaced-changed : IsPlaced slots' n look
    IsPlaced-changed = record {
      places = subst (λ s. Indexes has_id s look) (sym is) (Indexes-write f i (λ e k. ap (λ y. bytes_eq y k) (same e)) h.places);
      count = h.count ∙ sym (ap length held_changed ∙ length-changed (λ e. has_id e x) f (entries_of slots));
    }

-- the ids of the nodes, in order, are those that stand in the slots
pub spots_entries : {T : Type 0} (slots : List (Option (Held T))) → ids_of (nodes_of (entries_of slots)) ≡ entries_of (spots_of slots)
spots_entries [] = refl
spots_entries (None ∷ slots) = spots_entries slots
spots_entries (Some h ∷ slots) = ap (λ l. h.id ∷ l) (spots_entries slots)
