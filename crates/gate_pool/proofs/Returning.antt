-- Entries that come back to the places at which they stood.
use Rattle.std.proofs.Common.{◌≡◌, ◌≢◌, ℕ, zero, suc, ◌+◌, ◌<◌, ◌≤◌, Bool, true, false, cond, not, List, [], ◌∷◌, ◌++◌, length, get_or, Option, Some, None, refl, sym, ap, ◌∙◌, subst, inl, inr, arith, true≢false, length-append}
use Rattle.std.specs.Prelude.{Contains, filter, find, slice_set, ◌==◌}
use Rattle.std.specs.List.{AllPairs}
use Rattle.std.specs.List.Sorted.{IsPermutation}
use Rattle.std.specs.Option.{option_and_then, option_map, option_or}
use Rattle.std.specs.Str.{bytes_eq}
use Rattle.std.specs.Cmp.Lexicographic.{bytes_decides}
use Rattle.std.proofs.lemmas.Bool.{eqb-true, cases_eq, cases_order, cases_lt, false_from_ne_true}
use Rattle.std.proofs.lemmas.List.{get_or_read, get_or-map, get_or_append_left, get_or-set_same, get_or-set_other, length-map, length-set, map-append}
use Rattle.std.proofs.lemmas.List.Elements.{Contains-append_cases, Contains-get_or}
use Rattle.std.proofs.lemmas.List.Folds.{find-append}
use Rattle.std.proofs.lemmas.List.Sorted.{Contains-permutation, IsPermutation-map, IsPermutation-sym}
use Rattle.std.proofs.lemmas.Map.Keys.{IsDistinct-IsPermutation}
use Rattle.std.proofs.lemmas.Map.Made.{AllPairs-from_IsDistinct, IsDistinct-from_AllPairs}
use Rattle.std.proofs.lemmas.Option.{none-some}
use Rattle.gate_tx.specs.declared.TxIn.{TxIn}
use Rattle.gate_tx.specs.declared.OutPoint.{OutPoint}
use Rattle.gate_tx.specs.Coins.{point_eq, spends}
use Rattle.gate_tx.specs.Equality.{out_point_decides}
use Rattle.gate_tx.specs.Ids.{txid_of, wtxid_of}
use Rattle.gate_graph.specs.Family.{Node}
use Rattle.gate_graph.specs.declared.held.Gone.{Gone}
use Rattle.gate_graph.specs.Holding.{vacated}
use Rattle.gate_graph.specs.Slots.{at, entries_of}
use Rattle.gate_bytes.proofs.Members.{Contains-cons_cases, Contains-head, Contains-rest, list_any_of, not_in_none}
use Rattle.gate_pool.specs.Pool.{Admitted, IsBounded, entry_by_txid, has_txid, has_wtxid, has_point, listing_of}
use Rattle.gate_pool.specs.Family.{node_of}
use Rattle.gate_pool.specs.Distinct.{AreDistinct}
use Rattle.gate_pool.specs.Keeping.{carried, entries_in, IsCarried, IsIndexed, IsNew}
use Rattle.gate_pool.specs.Log.{left_or, seat, before_of, IsLog}
use Rattle.gate_pool.specs.Rewinding.{IsEarly}
use Rattle.gate_pool.proofs.Adding.{DifferById, found_by_id}
use Rattle.gate_graph.proofs.Apart.{bytes_eq-sym}
use Rattle.gate_pool.proofs.Admission.{stands_at}
use Rattle.gate_pool.proofs.Conflicts.{find_absent}
use Rattle.gate_pool.proofs.Departing.{left_seat, old_spot, old_spots, seat_at, seat_before, spots_before, stood_seat}
use Rattle.gate_pool.proofs.Entries.{Id, find_some, find_none, Contains-map, Contains-from_map}
use Rattle.gate_pool.proofs.Ids.{pairs_same, same_spender}
use Rattle.gate_pool.proofs.Seats.{Spots, Log, AreTaken, IsLog-taken, at_place, before_same, before_taken, same_place}

-- of things that are told apart, each two that differ are
pairs_apart : {X : Type 0} (R : X → X → Type 0) → ((a b : X) → R a b → R b a) → (xs : List X) → AllPairs R xs → (a b : X) → Contains xs a → Contains xs b → (a ≡ b → ⊥) → R a b
pairs_apart {X} R turn xs apart a b m n differ =
    elim (cases_order m.0 n.0) [
      | inl e ↦ absurd (differ (get_or_read xs m.0 a m.1 (sym m.2) b ∙ ap (λ k. get_or xs k b) e ∙ n.2))
      | inr (inl lt) ↦ told a b m n lt
      | inr (inr lt) ↦ turn b a (told b a n m lt)
    ]
  where
    told : (a b : X) (m : Contains xs a) (n : Contains xs b) → m.0 < n.0 → R a b
    told a b m n lt = subst (λ z. R z b) m.2 (subst (λ z. R (get_or xs m.0 a) z) (sym (get_or_read xs n.0 b n.1 (sym n.2) a)) (apart m.0 n.0 a lt n.1))

-- the relations by which entries are told apart, turned
turn_txid : (a b : Admitted) → txid_of a.tx ≢ txid_of b.tx → txid_of b.tx ≢ txid_of a.tx
turn_txid a b h same = h (sym same)

turn_wtxid : (a b : Admitted) → wtxid_of a.tx ≢ wtxid_of b.tx → wtxid_of b.tx ≢ wtxid_of a.tx
turn_wtxid a b h same = h (sym same)

abbrev Apart : Admitted → Admitted → Type 0
Apart a b = (point : OutPoint) → spends a.tx.inputs point ≡ true → spends b.tx.inputs point ≡ false

turn_points : (a b : Admitted) → Apart a b → Apart b a
turn_points a b h point t = false_from_ne_true _ (λ s. true≢false (sym t ∙ h point s))

-- entries in another order
module _ (es es' : List Admitted) (moved : IsPermutation es es') (distinct : AreDistinct es) where
  back : (e : Admitted) → Contains es' e → Contains es e
  back e m = Contains-permutation es' es e (IsPermutation-sym es es' moved) m

  ids_differ : AllPairs (λ (a : Id) (b : Id). a ≢ b) (listing_of es')
  ids_differ =
      AllPairs-from_IsDistinct bytes_decides (listing_of es')
      (IsDistinct-IsPermutation bytes_eq bytes_eq-sym (listing_of es) (listing_of es') (IsPermutation-map (λ (e : Admitted). txid_of e.tx) es es' moved) (IsDistinct-from_AllPairs bytes_decides (listing_of es) (ids es distinct.txids)))
    where
      ids : (xs : List Admitted) → AllPairs DifferById xs → AllPairs (λ (a : Id) (b : Id). a ≢ b) (listing_of xs)
      ids xs h = λ i j d lt inside same.
          let n = length-map xs (λ (e : Admitted). txid_of e.tx) in
          let first = get_or_in xs j (omega (arith, inside, n)) in
          h i j first lt (omega (arith, inside, n))
          (sym (get_or-map (λ (e : Admitted). txid_of e.tx) xs i first d (omega (arith, lt, inside, n))) ∙ same ∙ get_or-map (λ (e : Admitted). txid_of e.tx) xs j first d (omega (arith, inside, n)))
        where
          get_or_in : (xs : List Admitted) (j : ℕ) → j < length xs → Admitted
          get_or_in [] j lt = absurd (omega (arith, lt))
          get_or_in (x ∷ xs) j lt = x

  differ : AllPairs DifferById es'
  differ = λ i j d lt inside same.
      let n = length-map es' (λ (e : Admitted). txid_of e.tx) in
      ids_differ i j (txid_of d.tx) lt (omega (arith, inside, n))
      (get_or-map (λ (e : Admitted). txid_of e.tx) es' i d (txid_of d.tx) (omega (arith, lt, inside)) ∙ same ∙ sym (get_or-map (λ (e : Admitted). txid_of e.tx) es' j d (txid_of d.tx) inside))

  still_apart : (R : Admitted → Admitted → Type 0) → ((a b : Admitted) → R a b → R b a) → AllPairs R es → AllPairs R es'
  still_apart R turn apart = λ i j d lt inside.
      let a = get_or es' i d in
      let b = get_or es' j d in
      pairs_apart R turn es apart a b (back a (Contains-get_or es' i d (omega (arith, lt, inside)))) (back b (Contains-get_or es' j d inside))
      (λ same. differ i j d lt inside (ap (λ (e : Admitted). txid_of e.tx) same))

  pub AreDistinct-moved : AreDistinct es'
  AreDistinct-moved = record {
    txids = differ;
    wtxids = still_apart (λ (a : Admitted) (b : Admitted). wtxid_of a.tx ≢ wtxid_of b.tx) turn_wtxid distinct.wtxids;
    points = still_apart Apart turn_points distinct.points;
  }

  -- a search that finds one at most finds the same
  find_moved : (t : Admitted → Bool) → ((a b : Admitted) → Contains es a → Contains es b → t a ≡ true → t b ≡ true → a ≡ b) → find t es' ≡ find t es
  find_moved t one = by (find t es) refl (find t es') refl
    where
      by : (o : Option Admitted) → find t es ≡ o → (r : Option Admitted) → find t es' ≡ r → r ≡ o
      by None k None q = refl
      by None k (Some y) q = let w = find_some t es' y q in absurd (true≢false (sym w.1 ∙ find_none t es k y (back y w.0)))
      by (Some x) k None q = let w = find_some t es x k in absurd (true≢false (sym w.1 ∙ find_none t es' q x (Contains-permutation es es' x moved w.0)))
      by (Some x) k (Some y) q =
          let v = find_some t es x k in
          let w = find_some t es' y q in
          ap Some (one y x (back y w.0) v.0 w.1 v.1)

  pub IsIndexed-moved : {wtxids : Id → Option Id} {points : OutPoint → Option Id} → IsIndexed es wtxids points → IsIndexed es' wtxids points
  IsIndexed-moved h = record {
    wtxids = λ k. h.wtxids k ∙ ap (option_map (λ (e : Admitted). txid_of e.tx)) (sym (find_moved (λ e. has_wtxid e k) (λ a b m n s t. same_wtxid k a b m n s t)));
    points = λ k. h.points k ∙ ap (option_map (λ (e : Admitted). txid_of e.tx)) (sym (find_moved (λ e. has_point e k) (same_spender es distinct k)));
    distinct = AreDistinct-moved;
  }
    where
      same_wtxid : (k : Id) (a b : Admitted) → Contains es a → Contains es b → has_wtxid a k ≡ true → has_wtxid b k ≡ true → a ≡ b
      same_wtxid k a b m n s t =
          let same : wtxid_of a.tx ≡ wtxid_of b.tx = (bytes_decides (wtxid_of a.tx) k).0 s ∙ sym ((bytes_decides (wtxid_of b.tx) k).0 t) in
          pairs_same (λ (a : Admitted) (b : Admitted). wtxid_of a.tx ≢ wtxid_of b.tx) es distinct.wtxids a b m n (λ away. away same) (λ away. away (sym same))

-- nodes that each are their entries'
all_carried : (nodes : List (Node × Admitted)) → ((p : Node × Admitted) → Contains nodes p → p ≡ (node_of p.1, p.1)) → nodes ≡ carried (entries_in nodes)
all_carried [] h = refl
all_carried (p ∷ nodes) h = λ i. h p (Contains-head p nodes) i ∷ all_carried nodes (λ q m. h q (Contains-rest p nodes q m)) i

-- an entry comes to nodes, at whatever place among them
module _ (nodes nodes' : List (Node × Admitted)) (n : Node) (e : Admitted) (k : IsCarried nodes) (own : n ≡ node_of e) (moved : IsPermutation (nodes ++ (n, e) ∷ []) nodes') where
  pub entries_moved : IsPermutation (entries_in nodes ++ e ∷ []) (entries_in nodes')
  entries_moved =
      subst (λ l. IsPermutation l (entries_in nodes')) (map-append (λ (p : Node × Admitted). p.1) nodes ((n, e) ∷ []))
      (IsPermutation-map (λ (p : Node × Admitted). p.1) (nodes ++ (n, e) ∷ []) nodes' moved)

  pub IsCarried-moved : IsBounded e → IsCarried nodes'
  IsCarried-moved bounds = record {
    is = all_carried nodes' (λ p m.
        elim (Contains-append_cases nodes ((n, e) ∷ []) p (Contains-permutation nodes' (nodes ++ (n, e) ∷ []) p (IsPermutation-sym (nodes ++ (n, e) ∷ []) nodes' moved) m)) [
          | inl old ↦ let v = Contains-from_map (λ (d : Admitted). (node_of d, d)) (entries_in nodes) p (subst (λ l. Contains l p) k.is old) in subst (λ (q : Node × Admitted). q ≡ (node_of q.1, q.1)) v.is refl
          | inr new ↦
              elim (Contains-cons_cases (n, e) [] p new) [
                | inl same ↦ subst (λ (q : Node × Admitted). q ≡ (node_of q.1, q.1)) same (λ i. (own i, e))
                | inr none ↦ not_in_none p none
              ]
        ]);
    bounded = λ d m.
        elim (Contains-append_cases (entries_in nodes) (e ∷ []) d (Contains-permutation (entries_in nodes') (entries_in nodes ++ e ∷ []) d (IsPermutation-sym (entries_in nodes ++ e ∷ []) (entries_in nodes') entries_moved) m)) [
          | inl old ↦ k.bounded d old
          | inr new ↦ elim (Contains-cons_cases e [] d new) [ inl same ↦ subst IsBounded same bounds | inr none ↦ not_in_none d none ]
        ];
  }

-- a hole at the end is as nothing
at_end : {E : Type 0} (xs : List (Option E)) (p : ℕ) → at (xs ++ None ∷ []) p ≡ at xs p
at_end [] zero = refl
at_end [] (suc p) = refl
at_end (x ∷ xs) zero = refl
at_end (x ∷ xs) (suc p) = at_end xs p

-- all but the last of things that are told apart, and each of them with the last
pairs_init : {X : Type 0} (R : X → X → Type 0) (xs : List X) (x : X) → AllPairs R (xs ++ x ∷ []) → AllPairs R xs
pairs_init R xs x h = λ i j d lt inside.
    subst (λ z. R z (get_or xs j d)) (get_or_append_left xs (x ∷ []) d i (omega (arith, lt, inside)))
    (subst (λ z. R (get_or (xs ++ x ∷ []) i d) z) (get_or_append_left xs (x ∷ []) d j inside) (h i j d lt (omega (arith, inside, length-append xs (x ∷ [])))))

pairs_last : {X : Type 0} (R : X → X → Type 0) (xs : List X) (x : X) → AllPairs R (xs ++ x ∷ []) → (y : X) → Contains xs y → R y x
pairs_last R [] x h y m = not_in_none y m
pairs_last {X} R (z ∷ xs) x h y m = elim (Contains-cons_cases z xs y m) [ inl same ↦ subst (λ w. R w x) same (subst (R z) (last xs) (h 0 (suc (length xs)) x (omega arith) (omega (arith, length-append xs (x ∷ []))))) | inr k ↦ pairs_last R xs x (λ i j d lt inside. h (suc i) (suc j) d (omega (arith, lt)) (omega (arith, inside))) y k ]
  where
    last : (ws : List X) → get_or (ws ++ x ∷ []) (length ws) x ≡ x
    last [] = refl
    last (w ∷ ws) = last ws

in_init : {X : Type 0} (xs : List X) (x y : X) → Contains xs y → Contains (xs ++ x ∷ []) y
in_init xs x y m = (m.0, omega (arith, m.1, length-append xs (x ∷ [])), get_or_append_left xs (x ∷ []) y m.0 m.1 ∙ m.2)

at_last : {X : Type 0} (xs : List X) (x : X) → Contains (xs ++ x ∷ []) x
at_last [] x = Contains-head x []
at_last (y ∷ xs) x = Contains-rest y (xs ++ x ∷ []) x (at_last xs x)

abbrev Places : Gone Admitted → Gone Admitted → Type 0
Places y z = y.place ≢ z.place

-- the last of a log
module _ (es : List Admitted) (spots : Spots) (log : Log) (x : Gone Admitted) (mark : ℕ) (l : IsLog es spots (log ++ x ∷ []) mark) where
  -- what is found at another place
  found_before : (p : ℕ) → (x.place ≡ p → ⊥) → find (λ y. y.place == p) (log ++ x ∷ []) ≡ find (λ y. y.place == p) log
  found_before p away =
      find-append (λ (y : Gone Admitted). y.place == p) log (x ∷ [])
      ∙ ap (λ b. option_or (find (λ y. y.place == p) log) (cond b (Some x) None)) (false_from_ne_true _ (λ t. away (eqb-true x.place p t)))
      ∙ only (find (λ y. y.place == p) log)
    where
      only : (o : Option (Gone Admitted)) → option_or o None ≡ o
      only None = refl
      only (Some y) = refl

  -- it stood past the mark
  pub before_dropped : mark ≤ x.place → before_of es spots log mark ≡ before_of es spots (log ++ x ∷ []) mark
  before_dropped late =
      before_same es es spots spots (log ++ x ∷ []) log mark
      (λ p lt. ap (λ o. left_or o (option_and_then (entry_by_txid es) (at spots p))) (sym (found_before p (λ same. absurd (omega (arith, late, lt, same))))))

  pub IsLog-dropped : mark ≤ x.place → IsLog es spots log mark
  IsLog-dropped late = record {
    marked = l.marked;
    apart = pairs_init Places log x l.apart;
    within = λ y m. l.within y (in_init log x y m);
    empty = λ y m. l.empty y (in_init log x y m);
    named = λ y m. l.named y (in_init log x y m);
    distinct = subst AreDistinct (sym (before_dropped late)) l.distinct;
  }

module _ (es : List Admitted) (spots : Spots) (listed : entries_of spots ≡ listing_of es) (distinct : AllPairs DifferById es) (log : Log) (x : Gone Admitted) (mark : ℕ) (l : IsLog es spots (log ++ x ∷ []) mark) where
  -- it stood below the mark, as all that stands does
  module _ (low : x.place < mark) (early : IsEarly spots mark) where
    stood : (e : Admitted) → Contains es e → (p : ℕ) × (p < mark) × (at spots p ≡ Some (txid_of e.tx))
    stood e m =
        let w = stands_at spots (txid_of e.tx) (subst (λ ids. Contains ids (txid_of e.tx)) (sym listed) (Contains-map (λ (d : Admitted). txid_of d.tx) es e m)) in
        elim (cases_lt w.0 mark) [ inl lt ↦ (w.0, lt, w.1) | inr le ↦ absurd (none-some (txid_of e.tx) (sym (early w.0 le) ∙ w.1)) ]

    here : seat_at es spots listed distinct (log ++ x ∷ []) mark l x.place ≡ Some x.load
    here = left_seat es spots listed distinct (log ++ x ∷ []) mark l x (at_last log x)

    there : (e : Admitted) (m : Contains es e) → seat_at es spots listed distinct (log ++ x ∷ []) mark l (stood e m).0 ≡ Some e
    there e m = stood_seat es spots listed distinct (log ++ x ∷ []) mark l (stood e m).0 e m (stood e m).2

    abbrev first : List Admitted
    first = before_of es spots (log ++ x ∷ []) mark

    its_own : Contains first x.load
    its_own = seat_before es spots listed distinct (log ++ x ∷ []) mark l x.place x.load low here

    all_first : (e : Admitted) → Contains es e → Contains first e
    all_first e m = seat_before es spots listed distinct (log ++ x ∷ []) mark l (stood e m).0 e (stood e m).1 (there e m)

    away : (e : Admitted) → Contains es e → txid_of e.tx ≢ txid_of x.load.tx
    away e m same =
        let w = stood e m in
        let one : w.0 ≡ x.place =
        same_place first (old_spots es spots listed distinct (log ++ x ∷ []) mark l) (spots_before es spots listed distinct (log ++ x ∷ []) mark l) l.distinct.txids w.0 x.place (txid_of x.load.tx)
        (old_spot es spots listed distinct (log ++ x ∷ []) mark l w.0 e w.1 (there e m) ∙ ap Some same)
        (old_spot es spots listed distinct (log ++ x ∷ []) mark l x.place x.load low here) in
        none-some (txid_of e.tx) (sym (l.empty x (at_last log x)) ∙ ap (at spots) (sym one) ∙ w.2)

    pub IsNew-back : IsNew es x.load
    IsNew-back = record {
      txid = find_absent (λ e. has_txid e (txid_of x.load.tx)) es (λ e m. false_from_ne_true _ (λ t. away e m ((bytes_decides (txid_of e.tx) (txid_of x.load.tx)).0 t)));
      wtxid = find_absent (λ e. has_wtxid e (wtxid_of x.load.tx)) es (λ e m. false_from_ne_true _ (λ t.
          pairs_apart (λ (a : Admitted) (b : Admitted). wtxid_of a.tx ≢ wtxid_of b.tx) turn_wtxid first l.distinct.wtxids e x.load (all_first e m) its_own (λ same. away e m (ap (λ (d : Admitted). txid_of d.tx) same))
          ((bytes_decides (wtxid_of e.tx) (wtxid_of x.load.tx)).0 t)));
      points = λ i c. find_absent (λ e. spends e.tx.inputs i.prevout) es (λ e m.
          pairs_apart Apart turn_points first l.distinct.points x.load e its_own (all_first e m) (λ same. away e m (ap (λ (d : Admitted). txid_of d.tx) (sym same))) i.prevout
          (list_any_of (λ (q : TxIn). point_eq q.prevout i.prevout) x.load.tx.inputs i c ((out_point_decides i.prevout i.prevout).1 refl)));
    }

    -- and comes back to its place
    module _ (es' : List Admitted) (moved : IsPermutation (es ++ x.load ∷ []) es') (distinct' : AllPairs DifferById es') where
      abbrev filled : Spots
      filled = slice_set spots x.place (Some (txid_of x.load.tx))

      abbrev pub after_back : Spots
      after_back = filled ++ None ∷ []

      inside : x.place < length spots
      inside = l.within x (at_last log x)

      at_own : at after_back x.place ≡ Some (txid_of x.load.tx)
      at_own = at_end filled x.place ∙ get_or-set_same spots x.place (Some (txid_of x.load.tx)) None inside

      at_other : (p : ℕ) → p ≢ x.place → at after_back p ≡ at spots p
      at_other p other = at_end filled p ∙ get_or-set_other spots x.place p (Some (txid_of x.load.tx)) None other

      seat_back : (p : ℕ) → seat es' after_back log p ≡ seat es spots (log ++ x ∷ []) p
      seat_back p = elim (cases_eq p x.place) [ inl same ↦ subst (λ q. seat es' after_back log q ≡ seat es spots (log ++ x ∷ []) q) (sym same) own | inr other ↦ elsewhere other ]
        where
          own : seat es' after_back log x.place ≡ seat es spots (log ++ x ∷ []) x.place
          own =
              ap (λ o. left_or o (option_and_then (entry_by_txid es') (at after_back x.place)))
              (find_absent (λ (y : Gone Admitted). y.place == x.place) log (λ y m. false_from_ne_true _ (λ t. pairs_last Places log x l.apart y m (eqb-true y.place x.place t))))
              ∙ ap (option_and_then (entry_by_txid es')) at_own
              ∙ found_by_id es' distinct' x.load (Contains-permutation (es ++ x.load ∷ []) es' x.load moved (at_last es x.load))
              ∙ sym here

          elsewhere : p ≢ x.place → seat es' after_back log p ≡ seat es spots (log ++ x ∷ []) p
          elsewhere other =
              ap (λ o. left_or (find (λ y. y.place == p) log) (option_and_then (entry_by_txid es') o)) (at_other p other)
              ∙ by (at spots p) refl
              ∙ ap (λ o. left_or o (option_and_then (entry_by_txid es) (at spots p))) (sym (found_before es spots log x mark l p (λ same. other (sym same))))
            where
              by : (o : Option Id) → at spots p ≡ o → left_or (find (λ y. y.place == p) log) (option_and_then (entry_by_txid es') o) ≡ left_or (find (λ y. y.place == p) log) (option_and_then (entry_by_txid es) o)
              by None k = refl
              by (Some y) k =
                  let w = at_place es spots listed distinct p y k in
                  ap (left_or (find (λ z. z.place == p) log))
                  (ap (entry_by_txid es') (sym w.2) ∙ found_by_id es' distinct' w.0 (Contains-permutation (es ++ x.load ∷ []) es' w.0 moved (in_init es x.load w.0 w.1)) ∙ sym w.3)

      pub before_back : before_of es' after_back log mark ≡ before_of es spots (log ++ x ∷ []) mark
      before_back = before_same es es' spots after_back (log ++ x ∷ []) log mark (λ p lt. seat_back p)

      pub IsEarly-back : IsEarly after_back mark
      IsEarly-back = λ p le. at_other p (λ same. absurd (omega (arith, same, le, low))) ∙ early p le

      pub IsLog-back : IsLog es' after_back log mark
      IsLog-back =
          let grown : length after_back ≡ length spots + 1 = length-append filled (None ∷ []) ∙ ap (λ n. n + 1) (length-set spots x.place (Some (txid_of x.load.tx))) in
          record {
            marked = omega (arith, l.marked, grown);
            apart = pairs_init Places log x l.apart;
            within = λ y m. omega (arith, l.within y (in_init log x y m), grown);
            empty = λ y m. at_other y.place (pairs_last Places log x l.apart y m) ∙ l.empty y (in_init log x y m);
            named = λ y m. l.named y (in_init log x y m);
            distinct = subst AreDistinct (sym before_back) l.distinct;
          }

-- an entry that came since the log began leaves
pub keeps_logs : (es : List Admitted) (spots : Spots) → entries_of spots ≡ listing_of es → AllPairs DifferById es → (test : Id → Bool) (x : Gone Admitted) → AreTaken test es spots (x ∷ []) → (mark : ℕ) → mark ≤ x.place → (log : Log) → IsLog es spots log mark
    → IsLog (filter (λ e. not (test (txid_of e.tx))) es) (vacated test spots) log mark × (before_of (filter (λ e. not (test (txid_of e.tx))) es) (vacated test spots) log mark ≡ before_of es spots log mark)
keeps_logs es spots listed distinct test x taken mark late log l =
    let rest = filter (λ e. not (test (txid_of e.tx))) es in
    let left = IsLog-taken es spots listed distinct test log (x ∷ []) taken mark l in
    (IsLog-dropped rest (vacated test spots) log x mark left late, before_dropped rest (vacated test spots) log x mark left late ∙ before_taken es spots listed distinct test log (x ∷ []) taken mark)
