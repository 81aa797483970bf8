-- What a log and the places say of those that left and of those that came.
use Rattle.std.proofs.Common.{◌≡◌, ◌≢◌, ℕ, zero, suc, ◌<◌, Bool, true, List, [], ◌∷◌, ◌++◌, map, length, get_or, Option, Some, None, refl, sym, ap, ◌∙◌, subst, inl, inr, ◌⊎◌, arith, true≢false, length-append}
use Rattle.std.specs.Prelude.{Contains, filter, find, nat_lt, is_none, ◌==◌}
use Rattle.std.specs.List.{AllPairs}
use Rattle.std.specs.List.Sorted.{IsPermutation, IsNonDecreasingBy}
use Rattle.std.specs.Option.{option_map, option_and_then}
use Rattle.std.proofs.lemmas.Bool.{eqb-true, eq-eqb, false_from_ne_true, and_parts, and_from, cases_lt}
use Rattle.std.proofs.lemmas.Bool.Decides.{nat_tests}
use Rattle.std.proofs.lemmas.List.{get_or-map, get_or_append_left}
use Rattle.std.proofs.lemmas.List.Elements.{Contains-get_or}
use Rattle.std.proofs.lemmas.List.Kept.{AllPairs-filter}
use Rattle.std.proofs.lemmas.List.Sorted.{IsPermutation-map, IsPermutation-sym, Contains-permutation}
use Rattle.std.proofs.lemmas.Option.{none-some, same_Some}
use Rattle.gate_tx.specs.Ids.{txid_of}
use Rattle.gate_graph.specs.declared.held.Gone.{Gone}
use Rattle.gate_graph.specs.Slots.{at, entries_of}
use Rattle.gate_bytes.proofs.Members.{Contains-cons_cases, Contains-head, Contains-rest, not_in_none}
use Rattle.gate_pool.specs.Pool.{Admitted, entry_by_txid, listing_of}
use Rattle.gate_pool.specs.Family.{AreIdsOf}
use Rattle.gate_pool.specs.Leaving.{has_gone, seated}
use Rattle.gate_pool.specs.Log.{left_or, seat, seats, before_of, IsLog}
use Rattle.gate_pool.specs.Moves.{departed}
use Rattle.gate_pool.specs.declared.moves.Seated.{Seated}
use Rattle.gate_pool.proofs.Adding.{DifferById, found_by_id, passed}
use Rattle.gate_pool.proofs.Admission.{in_order, number_at, number_in}
use Rattle.gate_pool.proofs.Conflicts.{find_absent}
use Rattle.gate_pool.proofs.Entries.{Id, find_some, find_none, Contains-map, Contains-from_map}
use Rattle.gate_pool.proofs.Ids.{pairs_same}
use Rattle.gate_pool.proofs.Seats.{Spots, Log, at_place, same_place}
use Rattle.gate_pool.proofs.Walking.{Contains-filter, Contains-from_filter}

-- what a list of seats has at each place
seats_length : (f : ℕ → Option Admitted) (n : ℕ) → length (seats f n) ≡ n
seats_length f zero = refl
seats_length f (suc n) = omega (arith, length-append (seats f n) (f n ∷ []), seats_length f n)

seats_at : (f : ℕ → Option Admitted) (n p : ℕ) → p < n → at (seats f n) p ≡ f p
seats_at f zero p lt = absurd (omega (arith, lt))
seats_at f (suc n) p lt =
    elim (cases_lt p n) [
      | inl less ↦ get_or_append_left (seats f n) (f n ∷ []) None p (omega (arith, less, seats_length f n)) ∙ seats_at f n p less
      | inr more ↦
          let here : p ≡ n = omega (arith, lt, more) in
          ap (at (seats f n ++ f n ∷ [])) (here ∙ sym (seats_length f n)) ∙ last (seats f n) (f n) ∙ ap f (sym here)
    ]
  where
    last : (xs : List (Option Admitted)) (x : Option Admitted) → at (xs ++ x ∷ []) (length xs) ≡ x
    last [] x = refl
    last (y ∷ xs) x = last xs x

-- what stands in a list stands at a place of it
seat_of : (xs : List (Option Admitted)) (e : Admitted) → Contains (entries_of xs) e → (p : ℕ) × (p < length xs) × (at xs p ≡ Some e)
seat_of [] e m = not_in_none e m
seat_of (None ∷ xs) e m = let w = seat_of xs e m in (suc w.0, omega (arith, w.1), w.2)
seat_of (Some d ∷ xs) e m =
    elim (Contains-cons_cases d (entries_of xs) e m) [
      | inl same ↦ (0, omega arith, ap Some same)
      | inr k ↦ let w = seat_of xs e k in (suc w.0, omega (arith, w.1), w.2)
    ]

seat_in : (xs : List (Option Admitted)) (p : ℕ) (e : Admitted) → at xs p ≡ Some e → Contains (entries_of xs) e
seat_in [] p e k = absurd (none-some e k)
seat_in (None ∷ xs) zero e k = absurd (none-some e k)
seat_in (None ∷ xs) (suc p) e k = seat_in xs p e k
seat_in (Some d ∷ xs) zero e k = subst (Contains (d ∷ entries_of xs)) (same_Some d e k) (Contains-head d (entries_of xs))
seat_in (Some d ∷ xs) (suc p) e k = Contains-rest d (entries_of xs) e (seat_in xs p e k)

-- the ids at seats
abbrev pub ids_in : List (Option Admitted) → Spots
ids_in xs = map (option_map (λ e. txid_of e.tx)) xs

ids_listed : (xs : List (Option Admitted)) → entries_of (ids_in xs) ≡ listing_of (entries_of xs)
ids_listed [] = refl
ids_listed (None ∷ xs) = ids_listed xs
ids_listed (Some e ∷ xs) = ap (λ l. txid_of e.tx ∷ l) (ids_listed xs)

id_at_seat : (xs : List (Option Admitted)) (p : ℕ) → at (ids_in xs) p ≡ option_map (λ e. txid_of e.tx) (at xs p)
id_at_seat [] p = refl
id_at_seat (x ∷ xs) zero = refl
id_at_seat (x ∷ xs) (suc p) = id_at_seat xs p

pub below : (m n : ℕ) → nat_lt m n ≡ true → m < n
below m n h = grind (arith, nat_tests)

pub is_below : (m n : ℕ) → m < n → nat_lt m n ≡ true
is_below m n h = grind (arith, nat_tests)

none_is : {X : Type 0} (o : Option X) → is_none o ≡ true → o ≡ None
none_is None h = refl
none_is (Some x) h = absurd (true≢false (sym h))

module _ (es : List Admitted) (spots : Spots) (listed : entries_of spots ≡ listing_of es) (distinct : AllPairs DifferById es) (log : Log) (mark : ℕ) (l : IsLog es spots log mark) where
  abbrev pub before : List Admitted
  before = before_of es spots log mark

  abbrev pub seat_at : ℕ → Option Admitted
  seat_at = seat es spots log

  -- what left stood at its place
  pub left_seat : (x : Gone Admitted) → Contains log x → seat_at x.place ≡ Some x.load
  left_seat x m = by (find (λ y. y.place == x.place) log) refl
    where
      by : (o : Option (Gone Admitted)) → find (λ y. y.place == x.place) log ≡ o → left_or o (option_and_then (entry_by_txid es) (at spots x.place)) ≡ Some x.load
      by None k = absurd (true≢false (sym (eq-eqb x.place x.place refl) ∙ find_none (λ (y : Gone Admitted). y.place == x.place) log k x m))
      by (Some y) k =
          let w = find_some (λ (z : Gone Admitted). z.place == x.place) log y k in
          let same : y.place ≡ x.place = eqb-true y.place x.place w.1 in
          let one : y ≡ x = pairs_same (λ (a : Gone Admitted) (b : Gone Admitted). a.place ≢ b.place) log l.apart y x w.0 m (λ differ. differ same) (λ differ. differ (sym same)) in
          ap (λ (z : Gone Admitted). Some z.load) one

  -- an entry at a place stood there
  pub stood_seat : (p : ℕ) (e : Admitted) → Contains es e → at spots p ≡ Some (txid_of e.tx) → seat_at p ≡ Some e
  stood_seat p e m here =
      ap (λ o. left_or o (option_and_then (entry_by_txid es) (at spots p))) absent ∙ ap (option_and_then (entry_by_txid es)) here ∙ found_by_id es distinct e m
    where
      absent : find (λ y. y.place == p) log ≡ None
      absent = find_absent (λ (y : Gone Admitted). y.place == p) log (λ y k. false_from_ne_true _ (λ t.
          none-some (txid_of e.tx) (sym (l.empty y k) ∙ ap (at spots) (eqb-true y.place p t) ∙ here)))

  -- where a seat was from: it left, or it stands
  pub from_seat : (p : ℕ) (e : Admitted) → seat_at p ≡ Some e → ((x : Gone Admitted) × Contains log x × (x.place ≡ p) × (x.load ≡ e)) ⊎ (Contains es e × (at spots p ≡ Some (txid_of e.tx)))
  from_seat p e k = by (find (λ y. y.place == p) log) refl k
    where
      stands : (o : Option Id) → at spots p ≡ o → option_and_then (entry_by_txid es) o ≡ Some e → Contains es e × (at spots p ≡ Some (txid_of e.tx))
      stands None h k = absurd (none-some e k)
      stands (Some x) h k =
          let w = at_place es spots listed distinct p x h in
          let one : w.0 ≡ e = same_Some w.0 e (sym w.3 ∙ k) in
          (subst (Contains es) one w.1, h ∙ ap Some (sym w.2 ∙ ap (λ (d : Admitted). txid_of d.tx) one))

      by : (o : Option (Gone Admitted)) → find (λ y. y.place == p) log ≡ o → left_or o (option_and_then (entry_by_txid es) (at spots p)) ≡ Some e
          → ((x : Gone Admitted) × Contains log x × (x.place ≡ p) × (x.load ≡ e)) ⊎ (Contains es e × (at spots p ≡ Some (txid_of e.tx)))
      by None h k = inr (stands (at spots p) refl k)
      by (Some x) h k =
          let w = find_some (λ (z : Gone Admitted). z.place == p) log x h in
          inl (x, w.0, eqb-true x.place p w.1, same_Some x.load e k)

  -- those before are those of the seats
  pub seat_before : (p : ℕ) (e : Admitted) → p < mark → seat_at p ≡ Some e → Contains before e
  unfolding before_of
  seat_before p e lt k = seat_in (seats seat_at mark) p e (seats_at seat_at mark p lt ∙ k)

  pub before_seat : (e : Admitted) → Contains before e → (p : ℕ) × (p < mark) × (seat_at p ≡ Some e)
  unfolding before_of
  before_seat e m =
      let w = seat_of (seats seat_at mark) e m in
      let lt : w.0 < mark = omega (arith, w.1, seats_length seat_at mark) in
      (w.0, lt, sym (seats_at seat_at mark w.0 lt) ∙ w.2)

  pub spots_before : entries_of (ids_in (seats seat_at mark)) ≡ listing_of before
  unfolding before_of
  spots_before = ids_listed (seats seat_at mark)

  abbrev pub old_spots : Spots
  old_spots = ids_in (seats seat_at mark)

  pub old_spot : (p : ℕ) (e : Admitted) → p < mark → seat_at p ≡ Some e → at old_spots p ≡ Some (txid_of e.tx)
  old_spot p e lt k = id_at_seat (seats seat_at mark) p ∙ ap (option_map (λ d. txid_of d.tx)) (seats_at seat_at mark p lt ∙ k)

  -- the ids of what left are those of the entries before that no entry has
  abbrev has_none : Admitted → Bool
  has_none e = is_none (entry_by_txid es (txid_of e.tx))

  abbrev gone : Log
  gone = filter (has_gone es mark) log

  in_gone : (x : Gone Admitted) → Contains gone x → Contains log x × (x.place < mark) × (has_none x.load ≡ true)
  in_gone x m =
      let t = and_parts _ _ (passed (has_gone es mark) log x m) in
      (Contains-from_filter (has_gone es mark) log x m, below x.place mark t.0, t.1)

  gone_ids : AreIdsOf (map (λ s. s.txid) (map seated gone)) (filter has_none before)
  gone_ids = record {
    once = subst (AllPairs (λ (a : Id) (b : Id). a ≢ b)) (sym (both gone)) (differ gone (AllPairs-filter (λ (x : Gone Admitted) (y : Gone Admitted). x.place ≢ y.place) (has_gone es mark) log l.apart) (λ x m. in_gone x m));
    all = λ e m.
        let t = passed has_none before e m in
        let w = before_seat e (Contains-from_filter has_none before e m) in
        elim (from_seat w.0 e w.2) [
          | inl v ↦
              let k : Contains gone v.0 = Contains-filter (has_gone es mark) log v.0 v.1 (and_from _ _ (is_below v.0.place mark (omega (arith, w.1, v.2))) (ap has_none v.3 ∙ t)) in
              subst (Contains (map (λ s. s.txid) (map seated gone))) (ap (λ (d : Admitted). txid_of d.tx) v.3) (subst (λ ids. Contains ids (txid_of v.0.load.tx)) (sym (both gone)) (Contains-map (λ (x : Gone Admitted). txid_of x.load.tx) gone v.0 k))
          | inr v ↦ absurd (none-some e (sym (none_is _ t) ∙ found_by_id es distinct e v.0))
        ];
    only = λ id m.
        let v = Contains-from_map (λ (x : Gone Admitted). txid_of x.load.tx) gone id (subst (λ ids. Contains ids id) (both gone) m) in
        let w = in_gone v.item v.among in
        (v.item.load, Contains-filter has_none before v.item.load (seat_before v.item.place v.item.load w.1 (left_seat v.item w.0)) w.2, v.is);
  }
    where
      both : (xs : Log) → map (λ (s : Seated). s.txid) (map seated xs) ≡ map (λ x. txid_of x.load.tx) xs
      both [] = refl
      both (x ∷ xs) = ap (λ k. txid_of x.load.tx ∷ k) (both xs)

      -- at different places stood different ids
      differ : (xs : Log) → AllPairs (λ (x : Gone Admitted) (y : Gone Admitted). x.place ≢ y.place) xs → ((x : Gone Admitted) → Contains xs x → Contains log x × (x.place < mark) × (has_none x.load ≡ true)) → AllPairs (λ (a : Id) (b : Id). a ≢ b) (map (λ x. txid_of x.load.tx) xs)
      differ xs apart inside = λ i j d lt within same.
          let n : length (map (λ (x : Gone Admitted). txid_of x.load.tx) xs) ≡ length xs = ids_length xs in
          let e : Gone Admitted = get_or xs i (default xs j (omega (arith, within, n))) in
          let f : Gone Admitted = get_or xs j (default xs j (omega (arith, within, n))) in
          let v = inside e (Contains-get_or xs i _ (omega (arith, lt, within, n))) in
          let w = inside f (Contains-get_or xs j _ (omega (arith, within, n))) in
          let one : txid_of e.load.tx ≡ txid_of f.load.tx =
          sym (get_or-map (λ (x : Gone Admitted). txid_of x.load.tx) xs i _ d (omega (arith, lt, within, n))) ∙ same ∙ get_or-map (λ (x : Gone Admitted). txid_of x.load.tx) xs j _ d (omega (arith, within, n)) in
          apart i j _ lt (omega (arith, within, n))
          (same_place before old_spots spots_before l.distinct.txids e.place f.place (txid_of e.load.tx)
          (old_spot e.place e.load v.1 (left_seat e v.0)) (old_spot f.place f.load w.1 (left_seat f w.0) ∙ ap Some (sym one)))
        where
          ids_length : (xs : Log) → length (map (λ (x : Gone Admitted). txid_of x.load.tx) xs) ≡ length xs
          ids_length [] = refl
          ids_length (x ∷ xs) = ap suc (ids_length xs)

          default : (xs : Log) (j : ℕ) → j < length xs → Gone Admitted
          default [] j lt = absurd (omega (arith, lt))
          default (x ∷ xs) j lt = x

  -- sorted by their places they are in order of admission
  pub departed_are : (sorted : List Seated) → IsPermutation (map seated gone) sorted → IsNonDecreasingBy (λ (s : Seated). s.place) sorted → map (λ s. s.txid) sorted ≡ departed before es
  departed_are sorted moved up =
      in_order before old_spots spots_before l.distinct.txids has_none (map (λ s. s.txid) (map seated gone)) (map (λ s. s.txid) sorted)
      (IsPermutation-map (λ (s : Seated). s.txid) (map seated gone) sorted moved) rises gone_ids
    where
      placed : (s : Seated) → Contains sorted s → number_in old_spots s.txid ≡ s.place
      placed s m =
          let v = Contains-from_map seated gone s (Contains-permutation sorted (map seated gone) s (IsPermutation-sym (map seated gone) sorted moved) m) in
          let w = in_gone v.item v.among in
          ap (λ (z : Seated). number_in old_spots z.txid) (sym v.is)
          ∙ number_at before old_spots spots_before l.distinct.txids v.item.place (txid_of v.item.load.tx) (old_spot v.item.place v.item.load w.1 (left_seat v.item w.0))
          ∙ ap (λ (z : Seated). z.place) v.is

      rises : IsNonDecreasingBy (number_in old_spots) (map (λ s. s.txid) sorted)
      rises = λ i j d le within.
          let n : length (map (λ (s : Seated). s.txid) sorted) ≡ length sorted = ids_length sorted in
          let none : Seated = record { place = 0; txid = d } in
          let lt : i < length sorted = omega (arith, le, within, n) in
          let lt' : j < length sorted = omega (arith, within, n) in
          let first = ap (number_in old_spots) (get_or-map (λ (s : Seated). s.txid) sorted i none d lt) ∙ placed (get_or sorted i none) (Contains-get_or sorted i none lt) in
          let second = ap (number_in old_spots) (get_or-map (λ (s : Seated). s.txid) sorted j none d lt') ∙ placed (get_or sorted j none) (Contains-get_or sorted j none lt') in
          omega (arith, first, second, up i j none le lt')
        where
          ids_length : (xs : List Seated) → length (map (λ (s : Seated). s.txid) xs) ≡ length xs
          ids_length [] = refl
          ids_length (x ∷ xs) = ap suc (ids_length xs)
