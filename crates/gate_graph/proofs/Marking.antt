-- Places that a walk finds, and their marks.
use Rattle.std.proofs.Common.{◌≡◌, ◌≢◌, ℕ, zero, suc, ◌<◌, ◌≤◌, Bool, true, false, not, ◌&&◌, ◌||◌, cond, List, [], ◌∷◌, ◌++◌, length, get_or, take, Option, Some, None, is_some, refl, sym, ap, ◌∙◌, subst, ◌⊎◌, inl, inr, arith, true≢false}
use Rattle.std.specs.Prelude.{Contains, slice_set, filter, ◌==◌}
use Rattle.std.specs.Str.{bytes_eq}
use Rattle.std.specs.Option.{unwrap_or}
use Rattle.std.proofs.lemmas.Bool.{eqb-true, eq-eqb, or_parts, and_parts, false_from_ne_true, not-true, cases_eq, cases_lt}
use Rattle.std.proofs.lemmas.Option.{same_Some}
use Rattle.std.proofs.lemmas.List.{get_or-set_other, get_or-set_same, get_or-take, get_or_past, length-set, length-map, length-append, length-take-le}
use Rattle.std.proofs.lemmas.List.Elements.{Contains-append_cases, Contains-append_left, Contains-append_right, Contains-get_or}
use Rattle.gate_graph.specs.Family.{Node}
use Rattle.gate_graph.specs.Families.{among, has}
use Rattle.gate_bytes.proofs.Members.{Contains-cons_cases, Contains-head, not_in_none}
use Rattle.gate_graph.proofs.Apart.{among_from, Contains-among}
use Rattle.gate_graph.proofs.Filters.{Contains-map, Contains-from_map, Contains-from_filter}
use Rattle.gate_graph.specs.Slots.{at}
use Rattle.gate_graph.specs.Holding.{id_at, ids_at}
use Rattle.gate_graph.specs.Walking.{are_once, AreClear, AreStanding, IsSearch}
use Rattle.gate_graph.proofs.Finding.{are_once-push, once_fits}
pub use Rattle.gate_graph.proofs.Placing.{spot_some}

abbrev Id : Type 0
Id = List ℕ

abbrev Spots : Type 0
Spots = List (Option Id)

pub ids_at-push : (spots : Spots) (found : List ℕ) (p : ℕ) → ids_at spots (found ++ p ∷ []) ≡ ids_at spots found ++ id_at spots p ∷ []
ids_at-push spots [] p = refl
ids_at-push spots (q ∷ found) p = ap (λ l. id_at spots q ∷ l) (ids_at-push spots found p)

-- the id at a place of the list
pub id_of : (spots : Spots) (places : List ℕ) (i : ℕ) (d : ℕ) (e : Id) → i < length places → get_or (ids_at spots places) i e ≡ id_at spots (get_or places i d)
id_of spots [] i d e lt = absurd (omega (arith, lt))
id_of spots (p ∷ places) zero d e lt = refl
id_of spots (p ∷ places) (suc i) d e lt = id_of spots places i d e (omega (arith, lt))

pub ids_len : (spots : Spots) (places : List ℕ) → length (ids_at spots places) ≡ length places
ids_len spots places = length-map places (id_at spots)

pub id_from : (spots : Spots) (p : ℕ) (x : Id) → at spots p ≡ Some x → id_at spots p ≡ x
id_from spots p x e = ap (λ o. unwrap_or o []) e

pub filled : (spots : Spots) (p : ℕ) (x : Id) → at spots p ≡ Some x → is_some (at spots p) ≡ true
filled spots p x e = ap is_some e

pub within : (spots : Spots) (p : ℕ) → is_some (at spots p) ≡ true → p < length spots
within [] p s = absurd (true≢false (sym s))
within (x ∷ spots) zero s = omega arith
within (x ∷ spots) (suc p) s = omega (arith, within spots p s)

-- a place that is not marked was not found, and nor was its id
pub new_place : (g : List Node) (spots : Spots) (marks : List Bool) (found : List ℕ) (p : ℕ) (x : Id) → IsSearch g spots marks found
    → ((q : ℕ) → at spots q ≡ Some x → Some p ≡ Some q) → get_or marks p false ≡ false → among (ids_at spots found) x ≡ false
new_place g spots marks found p x s only new = false_from_ne_true _ (λ t.
    let w = Contains-from_map (id_at spots) found x (Contains-among (ids_at spots found) x t) in
    let here : at spots w.0 ≡ Some x = spot_some spots w.0 (s.standing.stand w.0 w.1) ∙ ap Some w.2 in
    let same : p ≡ w.0 = same_Some p w.0 (only w.0 here) in
    true≢false (sym (s.all w.0 w.1) ∙ ap (λ q. get_or marks q false) (sym same) ∙ new))

pub IsSearch-none : (g : List Node) (spots : Spots) (marks : List Bool) → AreClear (length spots) marks → IsSearch g spots marks []
IsSearch-none g spots marks c = record {
  len = c.len;
  only = λ p t. absurd (true≢false (sym t ∙ c.clear p));
  all = λ p m. not_in_none p m;
  standing = record { stand = λ p m. not_in_none p m; once = refl };
  nodes = λ x m. not_in_none x m;
}

pub IsSearch-push : (g : List Node) (spots : Spots) (marks : List Bool) (found : List ℕ) (p : ℕ) (x : Id) → IsSearch g spots marks found
    → at spots p ≡ Some x → has g x ≡ true → among (ids_at spots found) x ≡ false → IsSearch g spots (slice_set marks p true) (found ++ p ∷ [])
IsSearch-push g spots marks found p x s here node new = record {
  len = length-set marks p true ∙ s.len;
  only = λ q t.
      elim (cases_eq q p) [
        | inl e ↦ subst (Contains (found ++ p ∷ [])) (sym e) (Contains-append_right found (p ∷ []) p (Contains-head p []))
        | inr n ↦ Contains-append_left found (p ∷ []) q (s.only q (sym (get_or-set_other marks p q true false n) ∙ t))
      ];
  all = λ q m.
      elim (cases_eq q p) [
        | inl e ↦ ap (λ k. get_or (slice_set marks p true) k false) e ∙ get_or-set_same marks p true false (omega (arith, inside, s.len))
        | inr n ↦ get_or-set_other marks p q true false n ∙ s.all q (old q n m)
      ];
  standing = record {
    stand = λ q m.
        elim (Contains-append_cases found (p ∷ []) q m) [
          | inl old ↦ s.standing.stand q old
          | inr k ↦ elim (Contains-cons_cases p [] q k) [ inl e ↦ ap (λ r. is_some (at spots r)) (sym e) ∙ filled spots p x here | inr none ↦ not_in_none q none ]
        ];
    once = subst (λ l. are_once l ≡ true) (sym last) (are_once-push (ids_at spots found) x s.standing.once new);
  };
  nodes = λ y m.
      elim (Contains-append_cases (ids_at spots found) (x ∷ []) y (subst (λ l. Contains l y) last m)) [
        | inl old ↦ s.nodes y old
        | inr k ↦ elim (Contains-cons_cases x [] y k) [ inl e ↦ ap (has g) (sym e) ∙ node | inr none ↦ not_in_none y none ]
      ];
}
  where
    inside : p < length spots
    inside = within spots p (filled spots p x here)

    last : ids_at spots (found ++ p ∷ []) ≡ ids_at spots found ++ x ∷ []
    last = ids_at-push spots found p ∙ ap (λ y. ids_at spots found ++ y ∷ []) (id_from spots p x here)

    old : (q : ℕ) → q ≢ p → Contains (found ++ p ∷ []) q → Contains found q
    old q n m =
        elim (Contains-append_cases found (p ∷ []) q m) [
          | inl k ↦ k
          | inr k ↦ elim (Contains-cons_cases p [] q k) [ inl e ↦ absurd (n (sym e)) | inr none ↦ not_in_none q none ]
        ]

-- places are no more than the nodes
pub search_fits : (g : List Node) (spots : Spots) (marks : List Bool) (found : List ℕ) → IsSearch g spots marks found → length found ≤ length g
search_fits g spots marks found s = omega (arith, once_fits (ids_at spots found) g s.standing.once s.nodes, ids_len spots found)

-- no place stands twice
pub apart_at : (spots : Spots) (places : List ℕ) (i k d : ℕ) → are_once (ids_at spots places) ≡ true → i < k → k < length places → get_or places k d ≢ get_or places i d
apart_at spots [] i k d o lt l e = omega (arith, l)
apart_at spots (p ∷ places) zero zero d o lt l e = omega (arith, lt)
apart_at spots (p ∷ places) zero (suc k) d o lt l e =
    let q = and_parts _ _ o in
    let c : Contains (ids_at spots places) (id_at spots p) = subst (λ y. Contains (ids_at spots places) (id_at spots y)) e (Contains-map (id_at spots) places (get_or places k d) (Contains-get_or places k d (omega (arith, l)))) in
    true≢false (sym (among_from (ids_at spots places) (id_at spots p) c) ∙ not-true _ q.0)
apart_at spots (p ∷ places) (suc i) zero d o lt l e = omega (arith, lt)
apart_at spots (p ∷ places) (suc i) (suc k) d o lt l e = apart_at spots places i k d (and_parts _ _ o).1 (omega (arith, lt)) (omega (arith, l)) e

-- one of the places, while what stands in the slots stays
pub same_at : (spots spots' : Spots) (places : List ℕ) (i d : ℕ) → spots' ≡ spots → i < length places → id_at spots' (get_or places i d) ≡ get_or (ids_at spots places) i []
same_at spots spots' places i d e lt = ap (λ s. id_at s (get_or places i d)) e ∙ sym (id_of spots places i d [] lt)

pub stands_at : (spots spots' : Spots) (places : List ℕ) (i d : ℕ) → AreStanding spots places → spots' ≡ spots → i < length places → is_some (at spots' (get_or places i d)) ≡ true
stands_at spots spots' places i d a e lt = ap (λ s. is_some (at s (get_or places i d))) e ∙ a.stand (get_or places i d) (Contains-get_or places i d lt)

pub ids_lt : (spots : Spots) (places : List ℕ) (i : ℕ) → i < length places → i < length (ids_at spots places)
ids_lt spots places i lt = omega (arith, lt, ids_len spots places)

pub ids_le : (spots : Spots) (places : List ℕ) (i : ℕ) → length places ≤ i → length (ids_at spots places) ≤ i
ids_le spots places i le = omega (arith, le, ids_len spots places)

-- one slot more, and one mark more
pub clear_push : (spots : Spots) (x : Id) (marks : List Bool) → AreClear (length spots) marks → AreClear (length (spots ++ Some x ∷ [])) (marks ++ false ∷ [])
clear_push spots x marks c = record {
  len = omega (arith, c.len, length-append spots (Some x ∷ []), length-append marks (false ∷ []));
  clear = pushed marks c.clear;
}
  where
    pushed : (marks : List Bool) → ((p : ℕ) → get_or marks p false ≡ false) → (p : ℕ) → get_or (marks ++ false ∷ []) p false ≡ false
    pushed [] h zero = refl
    pushed [] h (suc p) = refl
    pushed (m ∷ marks) h zero = h 0
    pushed (m ∷ marks) h (suc p) = pushed marks (λ q. h (suc q)) p

pub ids_same : (spots spots' : Spots) (places' places : List ℕ) → spots' ≡ spots → places' ≡ places → ids_at spots' places' ≡ ids_at spots places
ids_same spots spots' places' places e f = λ i. ids_at (e i) (f i)

-- a mark that is cleared
pub unset_before : (marks : List Bool) (q p : ℕ) → get_or (slice_set marks q false) p false ≡ true → get_or marks p false ≡ true
unset_before [] q p t = absurd (true≢false (sym t))
unset_before (m ∷ marks) zero zero t = absurd (true≢false (sym t))
unset_before (m ∷ marks) zero (suc p) t = t
unset_before (m ∷ marks) (suc q) zero t = t
unset_before (m ∷ marks) (suc q) (suc p) t = unset_before marks q p t

pub unset_at : (marks : List Bool) (q p : ℕ) → (p ≡ q) ⊎ (get_or marks p false ≡ false) → get_or (slice_set marks q false) p false ≡ false
unset_at marks q p (inl e) = ap (λ j. get_or (slice_set marks q false) j false) e ∙ here marks q
  where
    here : (marks : List Bool) (q : ℕ) → get_or (slice_set marks q false) q false ≡ false
    here [] q = refl
    here (m ∷ marks) zero = refl
    here (m ∷ marks) (suc q) = here marks q
unset_at [] q p (inr e) = e
unset_at (m ∷ marks) zero zero (inr e) = refl
unset_at (m ∷ marks) zero (suc p) (inr e) = e
unset_at (m ∷ marks) (suc q) zero (inr e) = e
unset_at (m ∷ marks) (suc q) (suc p) (inr e) = unset_at marks q p (inr e)

-- no node has an id that no place has
pub none_from : {A : Type 0} (o : Option A) → is_some o ≡ false → o ≡ None
none_from None e = refl
none_from (Some x) e = absurd (true≢false e)

-- without one place, which is a hole now
module _ (spots : Spots) (place : ℕ) where
  abbrev rest : List ℕ → List ℕ
  rest places = filter (λ p. not (p == place)) places

  abbrev holed : Spots
  holed = slice_set spots place None

  kept_at : (p : ℕ) → (p == place) ≡ false → at holed p ≡ at spots p
  kept_at p n = get_or-set_other spots place p None None (λ e. true≢false (sym (eq-eqb p place e) ∙ n))

  pub left_among : (places : List ℕ) (b : Id) → bytes_eq b (id_at spots place) ≡ false → among (ids_at holed (rest places)) b ≡ among (ids_at spots places) b
  left_among [] b n = refl
  left_among (p ∷ places) b n = by (p == place) refl (left_among places b n)
    where
      by : (t : Bool) → (p == place) ≡ t → among (ids_at holed (rest places)) b ≡ among (ids_at spots places) b
          → among (ids_at holed (cond (not t) (p ∷ rest places) (rest places))) b ≡ among (ids_at spots (p ∷ places)) b
      by true e ih = ih ∙ ap (λ z. z || among (ids_at spots places) b) (sym (ap (λ q. bytes_eq b (id_at spots q)) (eqb-true p place e) ∙ n))
      by false e ih = ap (λ o. bytes_eq b (unwrap_or o []) || among (ids_at holed (rest places)) b) (kept_at p e) ∙ ap (λ z. bytes_eq b (id_at spots p) || z) ih

  fewer_among : (places : List ℕ) (b : Id) → among (ids_at spots places) b ≡ false → among (ids_at holed (rest places)) b ≡ false
  fewer_among [] b n = refl
  fewer_among (p ∷ places) b n = let q = or_parts _ _ n in by (p == place) refl q.0 (fewer_among places b q.1)
    where
      by : (t : Bool) → (p == place) ≡ t → bytes_eq b (id_at spots p) ≡ false → among (ids_at holed (rest places)) b ≡ false
          → among (ids_at holed (cond (not t) (p ∷ rest places) (rest places))) b ≡ false
      by true e here ih = ih
      by false e here ih = ap (λ o. bytes_eq b (unwrap_or o []) || among (ids_at holed (rest places)) b) (kept_at p e) ∙ ap (λ z. z || among (ids_at holed (rest places)) b) here ∙ ih

  left_once : (places : List ℕ) → are_once (ids_at spots places) ≡ true → are_once (ids_at holed (rest places)) ≡ true
  left_once [] o = refl
  left_once (p ∷ places) o = let q = and_parts _ _ o in by (p == place) refl (fewer_among places (id_at spots p) (not-true _ q.0)) (left_once places q.1)
    where
      by : (t : Bool) → (p == place) ≡ t → among (ids_at holed (rest places)) (id_at spots p) ≡ false → are_once (ids_at holed (rest places)) ≡ true
          → are_once (ids_at holed (cond (not t) (p ∷ rest places) (rest places))) ≡ true
      by true e here ih = ih
      by false e here ih = ap (λ o. not (among (ids_at holed (rest places)) (unwrap_or o [])) && are_once (ids_at holed (rest places))) (kept_at p e) ∙ ap (λ z. not z && are_once (ids_at holed (rest places))) here ∙ ih

  pub left_standing : (places : List ℕ) → AreStanding spots places → AreStanding holed (rest places)
  left_standing places a = record {
    stand = λ p m.
        let w = Contains-from_filter (λ q. not (q == place)) places p m in
        ap is_some (kept_at p (not-true _ w.1)) ∙ a.stand p w.0;
    once = left_once places a.once;
  }

-- marks of fewer slots
pub clear_take : (n m : ℕ) (marks : List Bool) → AreClear n marks → m ≤ n → AreClear m (take m marks)
clear_take n m marks h le = record {
  len = length-take-le m marks (omega (arith, h.len));
  clear = λ p. by p (cases_lt p m);
}
  where
    by : (p : ℕ) → (p < m) ⊎ (m ≤ p) → get_or (take m marks) p false ≡ false
    by p (inl lt) = get_or-take m marks p false lt ∙ h.clear p
    by p (inr past) = get_or_past (take m marks) p false (omega (arith, length-take-le m marks (omega (arith, h.len))))
