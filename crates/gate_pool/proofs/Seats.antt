-- What stood at the places of a pool when its log began.
use Rattle.std.proofs.Common.{◌≡◌, ◌≢◌, ℕ, zero, suc, ◌+◌, ◌<◌, ◌≤◌, Bool, true, false, cond, not, List, [], ◌∷◌, ◌++◌, map, length, take, get_or, Option, Some, None, is_some, refl, sym, ap, ◌∙◌, subst, inl, inr, ◌⊎◌, arith, true≢false}
use Rattle.std.specs.Prelude.{Contains, filter, find, ◌==◌, if◌then◌else◌}
use Rattle.std.specs.List.{AllPairs}
use Rattle.std.specs.Option.{option_and_then, option_or}
use Rattle.std.proofs.Math.Seq.{take-suc}
use Rattle.std.proofs.lemmas.Bool.{eqb-true, eq-eqb, false_from_ne_true}
use Rattle.std.proofs.lemmas.List.{take_more, map-append, length-map, length-append, get_or_append_left}
use Rattle.std.proofs.lemmas.List.Elements.{filter-append, Contains-append_cases, Contains-get_or}
use Rattle.std.proofs.lemmas.List.Folds.{find-append}
use Rattle.std.proofs.lemmas.List.Kept.{AllPairs-cons, AllPairs-filter}
use Rattle.std.proofs.lemmas.Option.{none-some, same_Some}
use Rattle.gate_tx.specs.Ids.{txid_of}
use Rattle.gate_graph.specs.declared.held.Gone.{Gone}
use Rattle.gate_graph.specs.Holding.{unless, vacated}
use Rattle.gate_graph.specs.Slots.{at, entries_of}
use Rattle.gate_graph.proofs.Marking.{within}
use Rattle.gate_graph.proofs.Vacating.{stands_among}
use Rattle.gate_bytes.proofs.Members.{Contains-head, Contains-rest, not_in_none}
use Rattle.gate_pool.specs.Pool.{Admitted, entry_by_txid, has_txid, listing_of}
use Rattle.gate_pool.specs.Distinct.{AreDistinct}
use Rattle.gate_pool.specs.Log.{left_or, seat, seats, before_of, IsLog}
use Rattle.gate_pool.specs.Search.{parents_of}
use Rattle.gate_pool.proofs.Adding.{DifferById, found_by_id, pairs_head, pairs_tail}
use Rattle.gate_pool.proofs.Admission.{one_place}
use Rattle.gate_pool.proofs.Conflicts.{find_absent}
use Rattle.gate_pool.proofs.Entries.{Id, find_some, find_none, Contains-from_map}
use Rattle.gate_pool.proofs.Ids.{no_more, same_txid}
use Rattle.gate_pool.proofs.Walking.{Contains-filter}

abbrev pub Spots : Type 0
Spots = List (Option Id)

abbrev pub Log : Type 0
Log = List (Gone Admitted)

-- what a test picks of the first elements, with one more
pub picked_more : {X Y : Type 0} (f : X → Y) (test : X → Bool) (xs : List X) (i : ℕ) (x : X) → i < length xs → x ≡ get_or xs i x → map f (filter test (take i xs)) ++ cond (test x) (f x ∷ []) [] ≡ map f (filter test (take (i + 1) xs))
picked_more f test xs i x lt is =
    ap (λ l. map f (filter test (take i xs)) ++ l) (one (test x))
    ∙ sym (map-append f (filter test (take i xs)) (filter test (x ∷ [])))
    ∙ ap (map f) (sym (filter-append test (take i xs) (x ∷ [])))
    ∙ ap (λ l. map f (filter test l)) (sym (take_more xs i x lt ∙ ap (λ y. take i xs ++ y ∷ []) (sym is)))
  where
    one : (b : Bool) → cond b (f x ∷ []) [] ≡ map f (cond b (x ∷ []) [])
    one true = refl
    one false = refl

-- pairs of two lists, one after the other
pub pairs_append : {X : Type 0} (R : X → X → Type 0) (xs ys : List X) → AllPairs R xs → AllPairs R ys → ((x y : X) → Contains xs x → Contains ys y → R x y) → AllPairs R (xs ++ ys)
pairs_append R [] ys a b h = b
pairs_append {X} R (x ∷ xs) ys a b h =
    AllPairs-cons R x (xs ++ ys)
    (λ k d lt. by (get_or (xs ++ ys) k d) (Contains-append_cases xs ys (get_or (xs ++ ys) k d) (Contains-get_or (xs ++ ys) k d lt)))
    (pairs_append R xs ys (pairs_tail R x xs a) b (λ z y c m. h z y (Contains-rest x xs z c) m))
  where
    by : (z : X) → Contains xs z ⊎ Contains ys z → R x z
    by z (inl c) = pairs_head R x xs a z c
    by z (inr m) = h x z (Contains-head x xs) m

pub seats_same : (f g : ℕ → Option Admitted) (n : ℕ) → ((p : ℕ) → p < n → f p ≡ g p) → seats f n ≡ seats g n
seats_same f g zero h = refl
seats_same f g (suc n) h = λ i. seats_same f g n (λ p lt. h p (omega (arith, lt))) i ++ h n (omega arith) i ∷ []

-- each place held what it held before
pub before_same : (es es' : List Admitted) (spots spots' : Spots) (log log' : Log) (mark : ℕ) → ((p : ℕ) → p < mark → seat es' spots' log' p ≡ seat es spots log p)
    → before_of es' spots' log' mark ≡ before_of es spots log mark
unfolding before_of
before_same es es' spots spots' log log' mark h = ap entries_of (seats_same (seat es' spots' log') (seat es spots log) mark h)

seats_take : (xs : List (Option Admitted)) (f : ℕ → Option Admitted) → ((p : ℕ) → f p ≡ at xs p) → (n : ℕ) → n ≤ length xs → seats f n ≡ take n xs
seats_take xs f h zero le = refl
seats_take xs f h (suc n) le = (λ i. seats_take xs f h n (omega (arith, le)) i ++ h n i ∷ []) ∙ sym (take-suc xs n None (omega (arith, le)))

-- nothing stands past the first places
none_all : {E : Type 0} (xs : List (Option E)) → ((p : ℕ) → at xs p ≡ None) → entries_of xs ≡ []
none_all [] h = refl
none_all (None ∷ xs) h = none_all xs (λ p. h (suc p))
none_all (Some x ∷ xs) h = absurd (none-some x (sym (h 0)))

entries_take : {E : Type 0} (xs : List (Option E)) (n : ℕ) → ((p : ℕ) → n ≤ p → at xs p ≡ None) → entries_of (take n xs) ≡ entries_of xs
entries_take [] zero h = refl
entries_take [] (suc n) h = refl
entries_take (x ∷ xs) zero h = sym (none_all (x ∷ xs) (λ p. h p (omega arith)))
entries_take (None ∷ xs) (suc n) h = entries_take xs n (λ p l. h (suc p) (omega (arith, l)))
entries_take (Some x ∷ xs) (suc n) h = ap (λ l. x ∷ l) (entries_take xs n (λ p l. h (suc p) (omega (arith, l))))

pub past : {E : Type 0} (xs : List (Option E)) (p : ℕ) → length xs ≤ p → at xs p ≡ None
past [] p l = refl
past (x ∷ xs) zero l = absurd (omega (arith, l))
past (x ∷ xs) (suc p) l = past xs p (omega (arith, l))

-- no place is there before the first
pub before_none : (es : List Admitted) (spots : Spots) (log : Log) → before_of es spots log 0 ≡ []
unfolding before_of
before_none es spots log = refl

find_kept : (log : Log) (p : ℕ) (x : Gone Admitted) → find (λ y. y.place == p) log ≡ Some x → Contains log x × (x.place ≡ p)
find_kept log p x e = let w = find_some (λ (y : Gone Admitted). y.place == p) log x e in (w.0, eqb-true x.place p w.1)

-- entries that stand at places, each at its own
module _ (es : List Admitted) (spots : Spots) (listed : entries_of spots ≡ listing_of es) (distinct : AllPairs DifferById es) where
  -- what stands at a place is an entry's id
  pub at_place : (p : ℕ) (x : Id) → at spots p ≡ Some x → (e : Admitted) × Contains es e × (txid_of e.tx ≡ x) × (entry_by_txid es x ≡ Some e)
  at_place p x e =
      let w = Contains-from_map (λ (d : Admitted). txid_of d.tx) es x (subst (λ l. Contains l x) listed (stands_among spots p x e)) in
      (w.item, w.among, w.is, ap (entry_by_txid es) (sym w.is) ∙ found_by_id es distinct w.item w.among)

  pub same_place : (i j : ℕ) (x : Id) → at spots i ≡ Some x → at spots j ≡ Some x → i ≡ j
  same_place = one_place es spots listed distinct

  -- nothing has left, and nothing has come to a place past the first
  pub before_early : (mark : ℕ) → mark ≤ length spots → ((p : ℕ) → mark ≤ p → at spots p ≡ None) → before_of es spots [] mark ≡ es
  unfolding before_of
  before_early mark le early =
      ap entries_of (seats_take (map look spots) (seat es spots []) at_map mark (omega (arith, le, length-map spots look)))
      ∙ entries_take (map look spots) mark (λ p l. sym (at_map p) ∙ ap look (early p l))
      ∙ standing es spots listed (λ e c. found_by_id es distinct e c)
    where
      look : Option Id → Option Admitted
      look s = option_and_then (entry_by_txid es) s

      at_map : (p : ℕ) → seat es spots [] p ≡ at (map look spots) p
      at_map p = go spots p
        where
          go : (ss : Spots) (p : ℕ) → look (at ss p) ≡ at (map look ss) p
          go [] p = refl
          go (s ∷ ss) zero = refl
          go (s ∷ ss) (suc p) = go ss p

      standing : (ds : List Admitted) (ss : Spots) → entries_of ss ≡ listing_of ds → ((d : Admitted) → Contains ds d → entry_by_txid es (txid_of d.tx) ≡ Some d) → entries_of (map look ss) ≡ ds
      standing [] [] e h = refl
      standing (d ∷ ds) [] e h = cc
      standing ds (None ∷ ss) e h = standing ds ss e h
      standing [] (Some x ∷ ss) e h = cc
      standing (d ∷ ds) (Some x ∷ ss) e h =
          let head : x ≡ txid_of d.tx = cc in
          let rest : entries_of ss ≡ listing_of ds = cc in
          ap (λ o. entries_of (o ∷ map look ss)) (ap (entry_by_txid es) head ∙ h d (Contains-head d ds))
          ∙ ap (λ l. d ∷ l) (standing ds ss rest (λ c m. h c (Contains-rest d ds c m)))

  -- the log begins
  pub before_marked : before_of es spots [] (length spots) ≡ es
  before_marked = before_early (length spots) (omega arith) (λ p l. past spots p l)

  -- one more at the end
  pub seat_put : (e : Admitted) (x : Id) (log : Log) (p : ℕ) → p < length spots → seat (es ++ e ∷ []) (spots ++ Some x ∷ []) log p ≡ seat es spots log p
  seat_put e x log p lt =
      ap (λ o. left_or (find (λ y. y.place == p) log) (option_and_then (entry_by_txid (es ++ e ∷ [])) o)) (get_or_append_left spots (Some x ∷ []) None p lt)
      ∙ by (at spots p) refl
    where
      by : (o : Option Id) → at spots p ≡ o → left_or (find (λ y. y.place == p) log) (option_and_then (entry_by_txid (es ++ e ∷ [])) o) ≡ left_or (find (λ y. y.place == p) log) (option_and_then (entry_by_txid es) o)
      by None k = refl
      by (Some y) k =
          let w = at_place p y k in
          ap (left_or (find (λ z. z.place == p) log)) (find-append (λ (d : Admitted). has_txid d y) es (e ∷ []) ∙ ap (λ o. option_or o (entry_by_txid (e ∷ []) y)) w.3 ∙ sym w.3)

  pub IsLog-put : (e : Admitted) (x : Id) (log : Log) (mark : ℕ) → IsLog es spots log mark → IsLog (es ++ e ∷ []) (spots ++ Some x ∷ []) log mark
  IsLog-put e x log mark l = record {
    marked = omega (arith, l.marked, length-append spots (Some x ∷ []));
    apart = l.apart;
    within = λ y m. omega (arith, l.within y m, length-append spots (Some x ∷ []));
    empty = λ y m. get_or_append_left spots (Some x ∷ []) None y.place (l.within y m) ∙ l.empty y m;
    named = l.named;
    distinct = subst AreDistinct (sym (before_same es (es ++ e ∷ []) spots (spots ++ Some x ∷ []) log log mark (λ p lt. seat_put e x log p (omega (arith, lt, l.marked))))) l.distinct;
  }

-- what left, and nothing else: the entries whose ids pass a test, each with its place
pub record AreTaken (test : Id → Bool) (es : List Admitted) (spots : Spots) (more : Log) : Type 0 where
  pub all : (e : Admitted) → Contains es e → test (txid_of e.tx) ≡ true → (x : Gone Admitted) × Contains more x × (at spots x.place ≡ Some (txid_of e.tx)) × (x.load ≡ e)
  pub only : (x : Gone Admitted) → Contains more x → (e : Admitted) × Contains es e × (test (txid_of e.tx) ≡ true) × (at spots x.place ≡ Some (txid_of e.tx)) × (x.load ≡ e)
  pub once : AllPairs (λ (x : Gone Admitted) (y : Gone Admitted). x.place ≢ y.place) more
  pub named : (x : Gone Admitted) → Contains more x → x.parents.items ≡ parents_of x.load.tx.inputs

pub at_vacated : (test : Id → Bool) (spots : Spots) (p : ℕ) → at (vacated test spots) p ≡ unless test (at spots p)
at_vacated test [] p = refl
at_vacated test (s ∷ spots) zero = refl
at_vacated test (s ∷ spots) (suc p) = at_vacated test spots p

-- entries whose ids pass a test leave
module _ (es : List Admitted) (spots : Spots) (listed : entries_of spots ≡ listing_of es) (distinct : AllPairs DifferById es) (test : Id → Bool) (log more : Log) (taken : AreTaken test es spots more) where
  abbrev rest : List Admitted
  rest = filter (λ e. not (test (txid_of e.tx))) es

  abbrev after : Spots
  after = vacated test spots

  seat_taken : (p : ℕ) → seat rest after (log ++ more) p ≡ seat es spots log p
  seat_taken p =
      ap (λ o. left_or o (option_and_then (entry_by_txid rest) (at after p))) (find-append (λ (y : Gone Admitted). y.place == p) log more)
      ∙ ap (λ o. left_or (option_or (find (λ y. y.place == p) log) (find (λ y. y.place == p) more)) (option_and_then (entry_by_txid rest) o)) (at_vacated test spots p)
      ∙ by (find (λ y. y.place == p) log)
    where
      -- what left at the place, if something did
      none : (at spots p ≡ None) ⊎ ((x : Id) × (at spots p ≡ Some x) × (test x ≡ false)) → find (λ y. y.place == p) more ≡ None
      none h = find_absent (λ (y : Gone Admitted). y.place == p) more (λ y m. false_from_ne_true _ (λ t.
          let w = taken.only y m in
          let here : at spots p ≡ Some (txid_of w.0.tx) = ap (at spots) (sym (eqb-true y.place p t)) ∙ w.3 in
          no w.0 w.2 here h))
        where
          no : (e : Admitted) → test (txid_of e.tx) ≡ true → at spots p ≡ Some (txid_of e.tx) → (at spots p ≡ None) ⊎ ((x : Id) × (at spots p ≡ Some x) × (test x ≡ false)) → ⊥
          no e t here (inl n) = none-some (txid_of e.tx) (sym n ∙ here)
          no e t here (inr w) = true≢false (sym t ∙ ap test (same_Some (txid_of e.tx) w.0 (sym here ∙ w.1)) ∙ w.2)

      stood : (o : Option Id) → at spots p ≡ o → left_or (find (λ y. y.place == p) more) (option_and_then (entry_by_txid rest) (unless test o)) ≡ option_and_then (entry_by_txid es) o
      stood None k = ap (λ f. left_or f None) (none (inl k))
      stood (Some x) k = at_test (test x) refl
        where
          w : (e : Admitted) × Contains es e × (txid_of e.tx ≡ x) × (entry_by_txid es x ≡ Some e)
          w = at_place es spots listed distinct p x k

          at_test : (b : Bool) → test x ≡ b → left_or (find (λ y. y.place == p) more) (option_and_then (entry_by_txid rest) (if b then None else Some x)) ≡ entry_by_txid es x
          at_test false t =
              let kept : entry_by_txid rest x ≡ Some w.0 =
              ap (entry_by_txid rest) (sym w.2) ∙ found_by_id rest (AllPairs-filter DifferById (λ (e : Admitted). not (test (txid_of e.tx))) es distinct) w.0
              (Contains-filter (λ (e : Admitted). not (test (txid_of e.tx))) es w.0 w.1 (ap not (ap test w.2 ∙ t))) in
              ap (λ f. left_or f (entry_by_txid rest x)) (none (inr (x, k, t))) ∙ kept ∙ sym w.3
          at_test true t = found (find (λ y. y.place == p) more) refl
            where
              found : (o : Option (Gone Admitted)) → find (λ y. y.place == p) more ≡ o → left_or o None ≡ entry_by_txid es x
              found (Some g) f =
                  let m = find_kept more p g f in
                  let v = taken.only g m.0 in
                  let same : txid_of v.0.tx ≡ txid_of w.0.tx = same_Some (txid_of v.0.tx) x (sym v.3 ∙ ap (at spots) m.1 ∙ k) ∙ sym w.2 in
                  ap Some (v.4 ∙ same_txid es distinct v.0 w.0 v.1 w.1 same) ∙ sym w.3
              found None f =
                  let v = taken.all w.0 w.1 (ap test w.2 ∙ t) in
                  let here : v.0.place ≡ p = same_place es spots listed distinct v.0.place p x (v.2 ∙ ap Some w.2) k in
                  absurd (true≢false (sym (eq-eqb v.0.place p here) ∙ find_none (λ (y : Gone Admitted). y.place == p) more f v.0 v.1))

      by : (o : Option (Gone Admitted)) → left_or (option_or o (find (λ y. y.place == p) more)) (option_and_then (entry_by_txid rest) (unless test (at spots p))) ≡ left_or o (option_and_then (entry_by_txid es) (at spots p))
      by None = stood (at spots p) refl
      by (Some g) = refl

  pub before_taken : (mark : ℕ) → before_of rest after (log ++ more) mark ≡ before_of es spots log mark
  before_taken mark = before_same es rest spots after log (log ++ more) mark (λ p lt. seat_taken p)

  -- what left and what stays are no more than what there was
  pub taken_fits : length more + length rest ≤ length es
  taken_fits =
      let most : length more ≤ length (filter (λ e. test (txid_of e.tx)) es) =
      no_more (λ (x : Gone Admitted). txid_of x.load.tx) (λ (e : Admitted). txid_of e.tx) more (filter (λ e. test (txid_of e.tx)) es) apart
      (λ x m. let w = taken.only x m in (w.0, Contains-filter (λ e. test (txid_of e.tx)) es w.0 w.1 w.2, ap (λ (e : Admitted). txid_of e.tx) (sym w.4))) in
      omega (arith, most, parts es)
    where
      apart : AllPairs (λ (x : Gone Admitted) (y : Gone Admitted). txid_of x.load.tx ≢ txid_of y.load.tx) more
      apart = λ i j d lt inside same.
          let v = taken.only (get_or more i d) (Contains-get_or more i d (omega (arith, lt, inside))) in
          let w = taken.only (get_or more j d) (Contains-get_or more j d inside) in
          let one : txid_of w.0.tx ≡ txid_of v.0.tx = ap (λ (e : Admitted). txid_of e.tx) (sym w.4) ∙ sym same ∙ ap (λ (e : Admitted). txid_of e.tx) v.4 in
          taken.once i j d lt inside (same_place es spots listed distinct (get_or more i d).place (get_or more j d).place (txid_of v.0.tx) v.3 (w.3 ∙ ap Some one))

      parts : (ds : List Admitted) → length (filter (λ e. test (txid_of e.tx)) ds) + length (filter (λ e. not (test (txid_of e.tx))) ds) ≡ length ds
      parts [] = refl
      parts (d ∷ ds) = one (test (txid_of d.tx)) (parts ds)
        where
          A : List Admitted
          A = filter (λ e. test (txid_of e.tx)) ds

          B : List Admitted
          B = filter (λ e. not (test (txid_of e.tx))) ds

          one : (b : Bool) → length A + length B ≡ length ds → length (cond b (d ∷ A) A) + length (cond (not b) (d ∷ B) B) ≡ length (d ∷ ds)
          one true h = omega (arith, h)
          one false h = omega (arith, h)

  pub IsLog-taken : (mark : ℕ) → IsLog es spots log mark → IsLog rest after (log ++ more) mark
  IsLog-taken mark l = record {
    marked = omega (arith, l.marked, length-map spots (unless test));
    apart = pairs_append (λ (x : Gone Admitted) (y : Gone Admitted). x.place ≢ y.place) log more l.apart taken.once (λ x y c m same.
        let w = taken.only y m in
        none-some (txid_of w.0.tx) (sym (l.empty x c) ∙ ap (at spots) same ∙ w.3));
    within = λ x m.
        elim (Contains-append_cases log more x m) [
          | inl c ↦ omega (arith, l.within x c, length-map spots (unless test))
          | inr k ↦ let w = taken.only x k in omega (arith, within spots x.place (ap is_some w.3), length-map spots (unless test))
        ];
    empty = λ x m.
        at_vacated test spots x.place
        ∙ elim (Contains-append_cases log more x m) [
          | inl c ↦ ap (unless test) (l.empty x c)
          | inr k ↦ let w = taken.only x k in ap (unless test) w.3 ∙ ap (λ b. if b then None else Some (txid_of w.0.tx)) w.2
        ];
    named = λ x m. elim (Contains-append_cases log more x m) [ inl c ↦ l.named x c | inr k ↦ taken.named x k ];
    distinct = subst AreDistinct (sym (before_taken mark)) l.distinct;
  }

-- the log begins
pub IsLog-marked : (es : List Admitted) (spots : Spots) → entries_of spots ≡ listing_of es → AreDistinct es → IsLog es spots [] (length spots)
IsLog-marked es spots listed distinct = record {
  marked = omega arith;
  apart = λ i j d lt within. absurd (omega (arith, within));
  within = λ x m. not_in_none x m;
  empty = λ x m. not_in_none x m;
  named = λ x m. not_in_none x m;
  distinct = subst AreDistinct (sym (before_marked es spots listed distinct.txids)) distinct;
}

-- the same entries at the same places
pub IsLog-same : {es es' : List Admitted} {spots spots' : Spots} {log log' : Log} {mark mark' : ℕ} → IsLog es spots log mark → es' ≡ es → spots' ≡ spots → log' ≡ log → mark' ≡ mark → IsLog es' spots' log' mark'
IsLog-same {es} {es'} {spots} {spots'} {log} {log'} {mark} {mark'} l a b c d =
    subst (λ e. IsLog e spots' log' mark') (sym a) (subst (λ s. IsLog es s log' mark') (sym b) (subst (λ k. IsLog es spots k mark') (sym c) (subst (λ n. IsLog es spots log n) (sym d) l)))
