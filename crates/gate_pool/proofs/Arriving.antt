-- What came, by the places from the mark on.
use Rattle.std.proofs.Common.{◌≡◌, ℕ, zero, suc, ◌<◌, ◌≤◌, Bool, false, not, List, [], ◌∷◌, ◌++◌, take, drop, Option, Some, None, refl, sym, ap, ◌∙◌, subst, inl, inr, arith, true≢false}
use Rattle.std.specs.Prelude.{Contains, filter, is_none}
use Rattle.std.specs.List.{AllPairs, list_any}
use Rattle.std.specs.Cmp.Lexicographic.{bytes_decides}
use Rattle.std.proofs.lemmas.Bool.{false_from_ne_true, and_parts, and_from, cases_Bool}
use Rattle.std.proofs.lemmas.List.{take-append-drop}
use Rattle.std.proofs.lemmas.List.Elements.{filter-append}
use Rattle.gate_tx.specs.Ids.{txid_of}
use Rattle.gate_graph.specs.declared.held.Held.{Held}
use Rattle.gate_graph.specs.Family.{Node}
use Rattle.gate_graph.specs.Holding.{loaded, spots_of, node_of as held_node}
use Rattle.gate_graph.specs.Slots.{at, entries_of}
use Rattle.gate_graph.proofs.Filters.{filter_same_on, filter_none}
use Rattle.gate_bytes.proofs.Members.{Contains-cons_cases, Contains-head, Contains-rest, any_is, list_any_of, not_in_none}
use Rattle.gate_pool.specs.Pool.{Admitted, entry_by_txid, has_txid, listing_of}
use Rattle.gate_pool.specs.Family.{node_of}
use Rattle.gate_pool.specs.Keeping.{carried}
use Rattle.gate_pool.specs.Leaving.{has_left}
use Rattle.gate_pool.specs.Log.{IsLog}
use Rattle.gate_pool.specs.Moves.{arrived}
use Rattle.gate_pool.specs.Places.{standing}
use Rattle.gate_pool.proofs.Adding.{DifferById, found_by_id}
use Rattle.gate_pool.proofs.Conflicts.{find_absent}
use Rattle.gate_pool.proofs.Departing.{below, is_below, before, before_seat, from_seat, left_seat, seat_before, stood_seat}
use Rattle.gate_pool.proofs.Entries.{Id, Contains-map, Contains-from_map}
use Rattle.gate_pool.proofs.Seats.{Log, same_place}

abbrev Slot : Type 0
Slot = Option (Held Admitted)

-- a node that carries an entry has its id
pub own_ids : (hs : List (Held Admitted)) (es : List Admitted) → loaded hs ≡ carried es → (h : Held Admitted) → Contains hs h → h.id ≡ txid_of h.load.tx
own_ids hs es is h m =
    let v = Contains-from_map (λ (d : Admitted). (node_of d, d)) es (held_node h, h.load) (subst (λ l. Contains l (held_node h, h.load)) is (Contains-map (λ (k : Held Admitted). (held_node k, k.load)) hs h m)) in
    sym (ap (λ (p : Node × Admitted). p.0.id) v.is) ∙ ap (λ (p : Node × Admitted). txid_of p.1.tx) v.is

-- entries that stand in the first slots, and in the others
module _ where
  in_front : (slots : List Slot) (n : ℕ) (e : Admitted) → ((h : Held Admitted) → Contains (entries_of slots) h → h.id ≡ txid_of h.load.tx) → Contains (standing (take n slots)) e
      → Contains (standing slots) e × ((p : ℕ) × (p < n) × (at (spots_of slots) p ≡ Some (txid_of e.tx)))
  in_front slots zero e own m = not_in_none e m
  in_front [] (suc n) e own m = not_in_none e m
  in_front (None ∷ slots) (suc n) e own m = let w = in_front slots n e own m in (w.0, (suc w.1.0, omega (arith, w.1.1), w.1.2))
  in_front (Some h ∷ slots) (suc n) e own m =
      elim (Contains-cons_cases h.load (standing (take n slots)) e m) [
        | inl same ↦ (subst (Contains (h.load ∷ standing slots)) same (Contains-head h.load (standing slots)), (0, omega arith, ap Some (own h (Contains-head h (entries_of slots)) ∙ ap (λ (d : Admitted). txid_of d.tx) same)))
        | inr k ↦ let w = in_front slots n e (λ x c. own x (Contains-rest h (entries_of slots) x c)) k in (Contains-rest h.load (standing slots) e w.0, (suc w.1.0, omega (arith, w.1.1), w.1.2))
      ]

  in_back : (slots : List Slot) (n : ℕ) (e : Admitted) → ((h : Held Admitted) → Contains (entries_of slots) h → h.id ≡ txid_of h.load.tx) → Contains (standing (drop n slots)) e
      → Contains (standing slots) e × ((p : ℕ) × (n ≤ p) × (at (spots_of slots) p ≡ Some (txid_of e.tx)))
  in_back [] zero e own m = not_in_none e m
  in_back (None ∷ slots) zero e own m = let w = in_back slots zero e own m in (w.0, (suc w.1.0, omega arith, w.1.2))
  in_back (Some h ∷ slots) zero e own m =
      elim (Contains-cons_cases h.load (standing slots) e m) [
        | inl same ↦ (m, (0, omega arith, ap Some (own h (Contains-head h (entries_of slots)) ∙ ap (λ (d : Admitted). txid_of d.tx) same)))
        | inr k ↦ let w = in_back slots zero e (λ x c. own x (Contains-rest h (entries_of slots) x c)) k in (m, (suc w.1.0, omega arith, w.1.2))
      ]
  in_back [] (suc n) e own m = not_in_none e m
  in_back (None ∷ slots) (suc n) e own m = let w = in_back slots n e own m in (w.0, (suc w.1.0, omega (arith, w.1.1), w.1.2))
  in_back (Some h ∷ slots) (suc n) e own m =
      let w = in_back slots n e (λ x c. own x (Contains-rest h (entries_of slots) x c)) m in
      (Contains-rest h.load (standing slots) e w.0, (suc w.1.0, omega (arith, w.1.1), w.1.2))

standing-append : (xs ys : List Slot) → standing (xs ++ ys) ≡ standing xs ++ standing ys
standing-append [] ys = refl
standing-append (None ∷ xs) ys = standing-append xs ys
standing-append (Some h ∷ xs) ys = ap (λ l. h.load ∷ l) (standing-append xs ys)

module _ (slots : List Slot) (own : (h : Held Admitted) → Contains (entries_of slots) h → h.id ≡ txid_of h.load.tx) (listed : entries_of (spots_of slots) ≡ listing_of (standing slots)) (distinct : AllPairs DifferById (standing slots)) (log : Log) (mark : ℕ) (l : IsLog (standing slots) (spots_of slots) log mark) where
  abbrev es : List Admitted
  es = standing slots

  abbrev old : List Admitted
  old = before es (spots_of slots) listed distinct log mark l

  abbrev was_none : Admitted → Bool
  was_none e = is_none (entry_by_txid old (txid_of e.tx))

  -- an id of those before is found
  known : (e : Admitted) → Contains old e → is_none (entry_by_txid old (txid_of e.tx)) ≡ false
  known e m = ap is_none (found_by_id old l.distinct.txids e m)

  -- what stands below the mark stood there
  front : (e : Admitted) → Contains (standing (take mark slots)) e → was_none e ≡ false
  front e m =
      let w = in_front slots mark e own m in
      known e (seat_before es (spots_of slots) listed distinct log mark l w.1.0 e w.1.1 (stood_seat es (spots_of slots) listed distinct log mark l w.1.0 e w.0 w.1.2))

  -- what stands from the mark on came, unless its id left
  back : (left : Id → Bool) → ((id : Id) → left id ≡ list_any (has_left mark id) log) → (e : Admitted) → Contains (standing (drop mark slots)) e → was_none e ≡ not (left (txid_of e.tx))
  back left told e m = elim (cases_Bool (list_any (has_left mark (txid_of e.tx)) log)) [
    | inl t ↦
        let v = any_is (has_left mark (txid_of e.tx)) log t in
        let k = and_parts _ _ v.2 in
        let there = seat_before es (spots_of slots) listed distinct log mark l v.0.place v.0.load (below v.0.place mark k.0) (left_seat es (spots_of slots) listed distinct log mark l v.0 v.1) in
        ap (λ x. is_none (entry_by_txid old x)) (sym ((bytes_decides (txid_of v.0.load.tx) (txid_of e.tx)).0 k.1)) ∙ known v.0.load there ∙ sym (ap not (told (txid_of e.tx) ∙ t))
    | inr f ↦
        ap is_none (find_absent (λ (d : Admitted). has_txid d (txid_of e.tx)) old (λ d k. false_from_ne_true _ (λ t.
        let id : txid_of d.tx ≡ txid_of e.tx = (bytes_decides (txid_of d.tx) (txid_of e.tx)).0 t in
        let s = before_seat es (spots_of slots) listed distinct log mark l d k in
        elim (from_seat es (spots_of slots) listed distinct log mark l s.0 d s.2) [
          | inl x ↦
              true≢false (sym (list_any_of (has_left mark (txid_of e.tx)) log x.0 x.1
              (and_from _ _ (is_below x.0.place mark (omega (arith, s.1, x.2))) ((bytes_decides (txid_of x.0.load.tx) (txid_of e.tx)).1 (ap (λ (b : Admitted). txid_of b.tx) x.3 ∙ id)))) ∙ f)
          | inr y ↦
              let w = in_back slots mark e own m in
              let same : s.0 ≡ w.1.0 = same_place es (spots_of slots) listed distinct s.0 w.1.0 (txid_of e.tx) (y.1 ∙ ap Some id) w.1.2 in
              absurd (omega (arith, same, s.1, w.1.1))
        ])))
        ∙ sym (ap not (told (txid_of e.tx) ∙ f))
  ]

  pub arrived_are : (left : Id → Bool) → ((id : Id) → left id ≡ list_any (has_left mark id) log) → listing_of (filter (λ e. not (left (txid_of e.tx))) (standing (drop mark slots))) ≡ arrived old es
  arrived_are left told =
      ap listing_of
      (sym (filter_same_on was_none (λ e. not (left (txid_of e.tx))) (standing (drop mark slots)) (back left told))
      ∙ ap (λ xs. xs ++ filter was_none (standing (drop mark slots))) (sym (filter_none was_none (standing (take mark slots)) front))
      ∙ sym (filter-append was_none (standing (take mark slots)) (standing (drop mark slots)))
      ∙ ap (filter was_none) (sym (standing-append (take mark slots) (drop mark slots)) ∙ ap standing (take-append-drop mark slots)))
