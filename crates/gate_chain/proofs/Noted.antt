-- Outpoints and ids that are noted one after another.
use Rattle.std.proofs.Common.{◌≡◌, ℕ, ◌+◌, ◌<◌, ◌≤◌, Bool, true, false, cond, ◌||◌, ◌&&◌, not, List, [], ◌∷◌, ◌++◌, length, map, filter, take, get_or, slice_get, Some, if◌then◌else◌, refl, sym, ap, subst, ◌∙◌, arith, append-nil, append_assoc, length-append}
use Rattle.std.proofs.lemmas.List.{take_all, take_more, map-append}
use Rattle.std.proofs.lemmas.List.Folds.{list_any-append}
use Rattle.std.specs.List.{list_any, IsDistinct, AllByRecursion}
use Rattle.std.specs.Map.{keys_of}
use Rattle.std.specs.Str.{bytes_eq}
use Rattle.gate_tx.specs.declared.OutPoint.{OutPoint}
use Rattle.gate_tx.specs.declared.TxIn.{TxIn}
use Rattle.gate_tx.specs.Coins.{point_eq, spends}
use Rattle.gate_chain.specs.declared.marked.Marked.{Marked}
use Rattle.gate_chain.specs.declared.connected.Connected.{Connected}
use Rattle.gate_chain.specs.Coins.{is_spent_in}
use Rattle.gate_chain.specs.Forgetting.{is_spent_in_any}
use Rattle.gate_chain.specs.Parting.{is_kept, is_lost, kept_of, lost_of, has_id, IsTally}
use Rattle.gate_chain.proofs.Copies.{take_one}
use Rattle.gate_chain.proofs.Growing.{or_false}
use Rattle.gate_chain.proofs.Marks.{spends-push}

pub noting_starts : (a : Bool) → a ≡ (a || false)
noting_starts true = refl
noting_starts false = refl

-- one more outpoint
pub noting_goes : (inputs : List TxIn) (i : ℕ) (x : TxIn) (p : OutPoint) (old before after : Bool) → i < length inputs → x ≡ get_or inputs i x
    → after ≡ cond (point_eq x.prevout p) true before → before ≡ (old || spends (take i inputs) p) → after ≡ (old || spends (take (i + 1) inputs) p)
noting_goes inputs i x p old before after lt is now was =
    now ∙ ap (λ b. cond (point_eq x.prevout p) true b) was ∙ by (point_eq x.prevout p) old (spends (take i inputs) p)
    ∙ ap (λ b. old || b) (sym (spends-push inputs i x p lt is))
  where
    by : (a b c : Bool) → cond a true (b || c) ≡ (b || (c || a))
    by true true c = refl
    by true false true = refl
    by true false false = refl
    by false true c = refl
    by false false true = refl
    by false false false = refl

pub noting_ends : (old : Bool) (inputs : List TxIn) (i : ℕ) (p : OutPoint) → length inputs ≤ i → (old || spends (take i inputs) p) ≡ (old || spends inputs p)
noting_ends old inputs i p le = ap (λ l. old || spends l p) (take_all i inputs le)

-- the entries that pass a test, with one more at the end
filter_push : {X : Type 0} (test : X → Bool) (xs : List X) (x : X) → filter test (xs ++ x ∷ []) ≡ filter test xs ++ cond (test x) (x ∷ []) []
filter_push test [] x = refl
filter_push test (y ∷ xs) x = by (test y) (filter_push test xs x)
  where
    by : (b : Bool) → filter test (xs ++ x ∷ []) ≡ filter test xs ++ cond (test x) (x ∷ []) []
        → cond b (y ∷ filter test (xs ++ x ∷ [])) (filter test (xs ++ x ∷ [])) ≡ cond b (y ∷ filter test xs) (filter test xs) ++ cond (test x) (x ∷ []) []
    by true h = ap (λ l. y ∷ l) h
    by false h = h

module _ (later wanted : OutPoint → Bool) (es : List (OutPoint × Marked)) (e : OutPoint × Marked) where
  kept_push : (b : Bool) → is_kept later wanted e ≡ b → kept_of later wanted (es ++ e ∷ []) ≡ kept_of later wanted es ++ cond b (e ∷ []) []
  kept_push b is = filter_push (is_kept later wanted) es e ∙ ap (λ t. kept_of later wanted es ++ cond t (e ∷ []) []) is

  lost_push : (b : Bool) → is_lost later wanted e ≡ b → lost_of later wanted (es ++ e ∷ []) ≡ lost_of later wanted es ++ cond b (e ∷ []) []
  lost_push b is = filter_push (is_lost later wanted) es e ∙ ap (λ t. lost_of later wanted es ++ cond t (e ∷ []) []) is

  -- a tally with one more coin, which is kept
  pub tally_keeps : (ids ids' : List (List ℕ)) (kept lost : ℕ) → is_kept later wanted e ≡ true → ((id : List ℕ) → list_any (bytes_eq id) ids' ≡ cond (bytes_eq e.0.txid id) true (list_any (bytes_eq id) ids))
      → IsTally later wanted es ids kept lost → IsTally later wanted (es ++ e ∷ []) ids' (kept + 1) lost
  tally_keeps ids ids' kept lost is noted t = record {
    ids_are = λ id. noted id ∙ ap (cond (bytes_eq e.0.txid id) true) (t.ids_are id) ∙ by (bytes_eq e.0.txid id) (has_id id (kept_of later wanted es))
        ∙ sym (ap (has_id id) (kept_push true is) ∙ list_any-append (λ (x : OutPoint × Marked). bytes_eq x.0.txid id) (kept_of later wanted es) (e ∷ []));
    kept_is = let k = t.kept_is in let n = ap length (kept_push true is) in let m = length-append (kept_of later wanted es) (e ∷ []) in omega arith;
    lost_is = let k = t.lost_is in let n = ap length (lost_push false (ap (λ b. not b && not e.1.spent) is)) in let m = length-append (lost_of later wanted es) [] in omega arith;
  }
    where
      by : (a b : Bool) → cond a true b ≡ (b || (a || false))
      by true true = refl
      by true false = refl
      by false true = refl
      by false false = refl

  -- and one that is not
  pub tally_drops : (ids : List (List ℕ)) (kept lost lost' : ℕ) → is_kept later wanted e ≡ false → lost' ≡ (if not e.1.spent then lost + 1 else lost)
      → IsTally later wanted es ids kept lost → IsTally later wanted (es ++ e ∷ []) ids kept lost'
  tally_drops ids kept lost lost' is counted t = record {
    ids_are = λ id. t.ids_are id ∙ ap (has_id id) (sym (kept_push false is ∙ append-nil (kept_of later wanted es)));
    kept_is = let k = t.kept_is in let n = ap length (kept_push false is ∙ append-nil (kept_of later wanted es)) in omega arith;
    lost_is = by e.1.spent refl;
  }
    where
      by : (b : Bool) → e.1.spent ≡ b → lost' ≡ length (lost_of later wanted (es ++ e ∷ []))
      by true f =
          let c : lost' ≡ lost = counted ∙ ap (λ b. if not b then lost + 1 else lost) f in
          let k = t.lost_is in
          let n = ap length (lost_push false ((λ j. not (is j) && not (f j))) ∙ append-nil (lost_of later wanted es)) in
          omega arith
      by false f =
          let c : lost' ≡ lost + 1 = counted ∙ ap (λ b. if not b then lost + 1 else lost) f in
          let k = t.lost_is in
          let n = ap length (lost_push true ((λ j. not (is j) && not (f j)))) in
          let m = length-append (lost_of later wanted es) (e ∷ []) in
          omega arith

-- a tally of no coins
pub tally_starts : (later wanted : OutPoint → Bool) (ids : List (List ℕ)) → ids ≡ [] → IsTally later wanted [] ids 0 0
tally_starts later wanted ids is = record { ids_are = λ id. ap (list_any (bytes_eq id)) is; kept_is = refl; lost_is = refl }

-- one more place of a table
pub tally_next : (later wanted : OutPoint → Bool) (es table : List (OutPoint × Marked)) (i : ℕ) (e : OutPoint × Marked) (ids : List (List ℕ)) (kept lost : ℕ) → slice_get table i ≡ Some e
    → IsTally later wanted ((es ++ take i table) ++ e ∷ []) ids kept lost → IsTally later wanted (es ++ take (i + 1) table) ids kept lost
tally_next later wanted es table i e ids kept lost there t =
    subst (λ l. IsTally later wanted l ids kept lost) (append_assoc es (take i table) (e ∷ []) ∙ ap (λ l. es ++ l) (sym (take_one table i e there))) t

-- outpoints that blocks spend
pub blocks_noted : (blocks : List Connected) (i : ℕ) (c : Connected) (p : OutPoint) (before after : Bool) → i < length blocks → c ≡ get_or blocks i c
    → before ≡ is_spent_in_any p (map (λ (x : Connected). x.block) (take i blocks)) → after ≡ (before || is_spent_in p c.block)
    → after ≡ is_spent_in_any p (map (λ (x : Connected). x.block) (take (i + 1) blocks))
blocks_noted blocks i c p before after lt is was now =
    now ∙ ap (λ b. b || is_spent_in p c.block) was ∙ ap (λ b. is_spent_in_any p (map (λ (x : Connected). x.block) (take i blocks)) || b) (sym (or_false (is_spent_in p c.block)))
    ∙ sym (ap (is_spent_in_any p) (ap (map (λ (x : Connected). x.block)) (take_more blocks i c lt ∙ (λ j. take i blocks ++ sym is j ∷ [])) ∙ map-append (λ (x : Connected). x.block) (take i blocks) (c ∷ []))
    ∙ list_any-append (is_spent_in p) (map (λ (x : Connected). x.block) (take i blocks)) (c.block ∷ []))

pub blocks_all : (blocks : List Connected) (i : ℕ) (p : OutPoint) → length blocks ≤ i → is_spent_in_any p (map (λ (x : Connected). x.block) (take i blocks)) ≡ is_spent_in_any p (map (λ (x : Connected). x.block) blocks)
blocks_all blocks i p le = ap (λ l. is_spent_in_any p (map (λ (x : Connected). x.block) l)) (take_all i blocks le)

-- entries of two lists that pass a test
pub filter-both : {X : Type 0} (test : X → Bool) (a b : List X) → filter test (a ++ b) ≡ filter test a ++ filter test b
filter-both test [] b = refl
filter-both test (x ∷ a) b = by (test x) (filter-both test a b)
  where
    by : (t : Bool) → filter test (a ++ b) ≡ filter test a ++ filter test b → cond t (x ∷ filter test (a ++ b)) (filter test (a ++ b)) ≡ cond t (x ∷ filter test a) (filter test a) ++ filter test b
    by true h = ap (λ l. x ∷ l) h
    by false h = h

all_filter : (P : OutPoint → Type 0) (test : OutPoint × Marked → Bool) (es : List (OutPoint × Marked)) → AllByRecursion P (keys_of es) → AllByRecursion P (keys_of (filter test es))
all_filter P test [] all = tt
all_filter P test (e ∷ es) all = by (test e) (all_filter P test es all.1)
  where
    by : (t : Bool) → AllByRecursion P (keys_of (filter test es)) → AllByRecursion P (keys_of (cond t (e ∷ filter test es) (filter test es)))
    by true h = (all.0, h)
    by false h = h

pub distinct_filter : (test : OutPoint × Marked → Bool) (es : List (OutPoint × Marked)) → IsDistinct point_eq (keys_of es) → IsDistinct point_eq (keys_of (filter test es))
unfolding IsDistinct
distinct_filter test [] d = tt
distinct_filter test (e ∷ es) d = by (test e) (distinct_filter test es d.1)
  where
    by : (t : Bool) → IsDistinct point_eq (keys_of (filter test es)) → IsDistinct point_eq (keys_of (cond t (e ∷ filter test es) (filter test es)))
    by true h = (all_filter (λ k. point_eq e.0 k ≡ false) test es d.0, h)
    by false h = h

-- how many of two lists are kept
pub room_is : (later wanted : OutPoint → Bool) (a b : List (OutPoint × Marked)) (ids ids' : List (List ℕ)) (kept lost kept' lost' : ℕ) → IsTally later wanted a ids kept lost → IsTally later wanted (a ++ b) ids' kept' lost'
    → kept' ≡ kept + length (kept_of later wanted b)
room_is later wanted a b ids ids' kept lost kept' lost' first both =
    let one = first.kept_is in
    let two = both.kept_is in
    let all = ap length (filter-both (is_kept later wanted) a b) in
    let sum = length-append (kept_of later wanted a) (kept_of later wanted b) in
    omega arith
