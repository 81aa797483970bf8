-- What leaves and what stays, added up.
use Rattle.std.proofs.Common.{◌≡◌, ◌≢◌, ℕ, suc, ◌+◌, ◌≤◌, Bool, true, false, cond, not, List, [], ◌∷◌, ◌++◌, length, get_or, Some, refl, sym, ap, ◌∙◌, inl, inr, arith, length-append}
use Rattle.std.specs.Prelude.{Contains, filter, sum_by}
use Rattle.std.specs.List.{AllPairs}
use Rattle.std.specs.Str.{bytes_eq}
use Rattle.std.specs.Cmp.Lexicographic.{bytes_decides}
use Rattle.std.proofs.lemmas.Bool.{false_from_ne_true}
use Rattle.std.proofs.lemmas.List.{length-map, map-append}
use Rattle.std.proofs.lemmas.List.Elements.{Contains-get_or}
use Rattle.std.proofs.lemmas.List.Filters.{sum_by-filter_both}
use Rattle.std.proofs.lemmas.List.Kept.{AllPairs-filter}
use Rattle.std.proofs.lemmas.List.Sums.{sum_by-cons, sum_by-append}
use Rattle.gate_tx.specs.Ids.{txid_of}
use Rattle.gate_graph.specs.declared.held.Gone.{Gone}
use Rattle.gate_graph.specs.Slots.{entries_of}
use Rattle.gate_bytes.proofs.Members.{Contains-cons_cases, Contains-head, Contains-rest, not_in_none}
use Rattle.gate_pool.specs.Log.{loads_of}
use Rattle.gate_pool.specs.Pool.{Admitted, Room, room_of, listing_of}
use Rattle.gate_pool.proofs.Adding.{DifferById, passed}
use Rattle.gate_pool.proofs.Entries.{Id}
use Rattle.gate_pool.proofs.Seats.{AreTaken, Log, Spots, same_place, taken_fits}
use Rattle.gate_pool.proofs.Walking.{Contains-filter, Contains-from_filter}
use Rattle.gate_pool.proofs.Ids.{no_more}

-- what is left of a list weighs no more
fewer : {Y : Type 0} (v : Y → ℕ) (other : Y → Bool) (xs : List Y) → sum_by v (filter other xs) ≤ sum_by v xs
fewer v other [] = omega arith
fewer v other (x ∷ xs) = one (other x) (fewer v other xs)
  where
    one : (b : Bool) → sum_by v (filter other xs) ≤ sum_by v xs → sum_by v (cond b (x ∷ filter other xs) (filter other xs)) ≤ sum_by v (x ∷ xs)
    one true h = omega (arith, h, sum_by-cons v x xs, sum_by-cons v x (filter other xs))
    one false h = omega (arith, h, sum_by-cons v x xs)

-- without one element a list weighs less by it
lighter : {Y : Type 0} (v : Y → ℕ) (other : Y → Bool) (ys : List Y) (y : Y) → Contains ys y → other y ≡ false → sum_by v (filter other ys) + v y ≤ sum_by v ys
lighter v other [] y m away = not_in_none y m
lighter v other (z ∷ ys) y m away =
    elim (Contains-cons_cases z ys y m) [
      | inl same ↦ omega (arith, ap (λ b. sum_by v (cond b (z ∷ filter other ys) (filter other ys))) (ap other same ∙ away), ap v same, sum_by-cons v z ys, fewer v other ys)
      | inr k ↦ by (other z) (lighter v other ys y k away)
    ]
  where
    by : (b : Bool) → sum_by v (filter other ys) + v y ≤ sum_by v ys → sum_by v (cond b (z ∷ filter other ys) (filter other ys)) + v y ≤ sum_by v (z ∷ ys)
    by true h = omega (arith, h, sum_by-cons v z ys, sum_by-cons v z (filter other ys))
    by false h = omega (arith, h, sum_by-cons v z ys)

module _ {X Y : Type 0} (f : X → Id) (h : Y → Id) (u : X → ℕ) (v : Y → ℕ) where
  -- things that are told apart by their ids weigh no more than those that have these ids and their weights
  pub no_heavier : (xs : List X) (ys : List Y) → AllPairs (λ (a : X) (b : X). f a ≢ f b) xs → ((x : X) → Contains xs x → (y : Y) × Contains ys y × (h y ≡ f x) × (v y ≡ u x)) → sum_by u xs ≤ sum_by v ys
  no_heavier [] ys apart has = omega arith
  no_heavier (x ∷ xs) ys apart has =
      let w = has x (Contains-head x xs) in
      let other : Y → Bool = λ y. not (bytes_eq (h y) (f x)) in
      let less = lighter v other ys w.0 w.1 (ap not ((bytes_decides (h w.0) (f x)).1 w.2)) in
      let rest : sum_by u xs ≤ sum_by v (filter other ys) = no_heavier xs (filter other ys) (λ i j d lt within. apart (suc i) (suc j) d (omega (arith, lt)) (omega (arith, within)))
      (λ z m.
      let k = has z (Contains-rest x xs z m) in
      let differ : bytes_eq (h k.0) (f x) ≡ true → ⊥ = λ e.
      apart 0 (suc m.0) z (omega arith) (omega (arith, m.1)) (sym (sym k.2 ∙ (bytes_decides (h k.0) (f x)).0 e) ∙ sym (ap f m.2)) in
      (k.0, Contains-filter other ys k.0 k.1 (ap not (false_from_ne_true _ differ)), k.2, k.3)) in
      omega (arith, less, rest, w.3, sum_by-cons u x xs)

-- what a log's entries weigh
pub loads : (u : Admitted → ℕ) (log : Log) → sum_by u (loads_of log) ≡ sum_by (λ (x : Gone Admitted). u x.load) log
loads u [] = refl
loads u (x ∷ log) = omega (arith, loads u log, sum_by-cons u x.load (loads_of log), sum_by-cons (λ (y : Gone Admitted). u y.load) x log)

-- what has left and what there is, together
abbrev pub together : Log → List Admitted → Room
together log es = record { entries = (room_of (loads_of log)).entries + length es; inputs = (room_of (loads_of log)).inputs + (room_of es).inputs }

-- entries whose ids pass a test leave
module _ (es : List Admitted) (spots : Spots) (listed : entries_of spots ≡ listing_of es) (distinct : AllPairs DifferById es) (test : Id → Bool) (more : Log) (taken : AreTaken test es spots more) where
  abbrev goes : Admitted → Bool
  goes e = test (txid_of e.tx)

  abbrev stays : Admitted → Bool
  stays e = not (test (txid_of e.tx))

  apart : AllPairs (λ (x : Gone Admitted) (y : Gone Admitted). txid_of x.load.tx ≢ txid_of y.load.tx) more
  apart = λ i j d lt inside same.
      let v = taken.only (get_or more i d) (Contains-get_or more i d (omega (arith, lt, inside))) in
      let w = taken.only (get_or more j d) (Contains-get_or more j d inside) in
      let one : txid_of w.0.tx ≡ txid_of v.0.tx = ap (λ (e : Admitted). txid_of e.tx) (sym w.4) ∙ sym same ∙ ap (λ (e : Admitted). txid_of e.tx) v.4 in
      taken.once i j d lt inside (same_place es spots listed distinct (get_or more i d).place (get_or more j d).place (txid_of v.0.tx) v.3 (w.3 ∙ ap Some one))

  -- what left and what stays weigh what there was
  pub taken_weighs : (u : Admitted → ℕ) → sum_by u (loads_of more) + sum_by u (filter stays es) ≡ sum_by u es
  taken_weighs u =
      let most : sum_by (λ (x : Gone Admitted). u x.load) more ≤ sum_by u (filter goes es) =
      no_heavier (λ (x : Gone Admitted). txid_of x.load.tx) (λ (e : Admitted). txid_of e.tx) (λ (x : Gone Admitted). u x.load) u more (filter goes es) apart
      (λ x m. let w = taken.only x m in (w.0, Contains-filter goes es w.0 w.1 w.2, ap (λ (e : Admitted). txid_of e.tx) (sym w.4), ap u (sym w.4))) in
      let least : sum_by u (filter goes es) ≤ sum_by (λ (x : Gone Admitted). u x.load) more =
      no_heavier (λ (e : Admitted). txid_of e.tx) (λ (x : Gone Admitted). txid_of x.load.tx) u (λ (x : Gone Admitted). u x.load) (filter goes es) more (AllPairs-filter DifferById goes es distinct)
      (λ e m. let w = taken.all e (Contains-from_filter goes es e m) (passed goes es e m) in (w.0, w.1, ap (λ (d : Admitted). txid_of d.tx) w.3, ap u w.3)) in
      omega (arith, most, least, sum_by-filter_both goes stays (λ e. refl) u es, loads u more)

  -- so what a pool has and what has left it are what they were, together
  pub all_taken : (log : Log) → together (log ++ more) (filter stays es) ≡ together log es
  all_taken log =
      let both : loads_of (log ++ more) ≡ loads_of log ++ loads_of more = map-append (λ (x : Gone Admitted). x.load) log more in
      let fits = taken_fits es spots listed distinct test log more taken in
      let many : length (filter goes es) ≤ length more =
      no_more (λ (e : Admitted). txid_of e.tx) (λ (x : Gone Admitted). txid_of x.load.tx) (filter goes es) more (AllPairs-filter DifferById goes es distinct)
      (λ e m. let w = taken.all e (Contains-from_filter goes es e m) (passed goes es e m) in (w.0, w.1, ap (λ (d : Admitted). txid_of d.tx) w.3)) in
      let count : length (loads_of (log ++ more)) + length (filter stays es) ≡ length (loads_of log) + length es =
      omega (arith, ap length both, length-append (loads_of log) (loads_of more), length-map more (λ (x : Gone Admitted). x.load), fits, many, parts es) in
      let u : Admitted → ℕ = λ e. length e.tx.inputs in
      let inputs : sum_by u (loads_of (log ++ more)) + sum_by u (filter stays es) ≡ sum_by u (loads_of log) + sum_by u es =
      omega (arith, ap (sum_by u) both, sum_by-append u (loads_of log) (loads_of more), taken_weighs u) in
      λ i. record { entries = count i; inputs = inputs i }
    where
      parts : (ds : List Admitted) → length (filter goes ds) + length (filter stays ds) ≡ length ds
      parts [] = refl
      parts (d ∷ ds) = one (test (txid_of d.tx)) (parts ds)
        where
          one : (b : Bool) → length (filter goes ds) + length (filter stays ds) ≡ length ds → length (cond b (d ∷ filter goes ds) (filter goes ds)) + length (cond (not b) (d ∷ filter stays ds) (filter stays ds)) ≡ length (d ∷ ds)
          one true h = omega (arith, h)
          one false h = omega (arith, h)

-- the last of a log is one entry, of so many inputs
pub last_weighs : (log : Log) (x : Gone Admitted) → (length (loads_of (log ++ x ∷ [])) ≡ length (loads_of log) + 1) × ((room_of (loads_of (log ++ x ∷ []))).inputs ≡ (room_of (loads_of log)).inputs + length x.load.tx.inputs)
last_weighs log x =
    let u : Admitted → ℕ = λ e. length e.tx.inputs in
    let both : loads_of (log ++ x ∷ []) ≡ loads_of log ++ x.load ∷ [] = map-append (λ (y : Gone Admitted). y.load) log (x ∷ []) in
    (ap length both ∙ length-append (loads_of log) (x.load ∷ []), ap (sum_by u) both ∙ sum_by-append u (loads_of log) (x.load ∷ []) ∙ ap (λ n. sum_by u (loads_of log) + n) (one u))
  where
    one : (u : Admitted → ℕ) → sum_by u (x.load ∷ []) ≡ u x.load
    one u = omega (arith, sum_by-cons u x.load [])
