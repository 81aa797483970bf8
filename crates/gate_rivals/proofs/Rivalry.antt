-- What transactions that are judged together replace, found step by step.
use Rattle.std.proofs.Common.{◌≡◌, ℕ, zero, suc, ◌+◌, ◌<◌, ◌≤◌, Bool, true, false, cond, ◌&&◌, ◌||◌, List, [], ◌∷◌, ◌++◌, length, get_or, take, map, Some, refl, sym, ap, subst, ◌∙◌, add-one, arith}
use Rattle.std.specs.Prelude.{Contains, filter, sum_by}
use Rattle.std.specs.List.{list_any}
use Rattle.std.proofs.lemmas.Bool.{ltb-false}
use Rattle.std.proofs.lemmas.List.Sums.{sum_by-cons}
use Rattle.gate_tx.specs.declared.OutPoint.{OutPoint}
use Rattle.gate_tx.specs.declared.TxIn.{TxIn}
use Rattle.gate_tx.specs.Coins.{spends}
use Rattle.gate_tx.specs.Ids.{txid_of}
use Rattle.gate_tx.specs.Tx.{Tx}
use Rattle.gate_graph.specs.Family.{reaches}
use Rattle.gate_pool.specs.Distinct.{AreDistinct}
use Rattle.gate_pool.specs.Family.{AreIdsOf, all_below, is_among, is_below_some, spends_one_of, steps, without_below}
use Rattle.gate_pool.specs.Pool.{Admitted, entry_by_txid, listing_of}
use Rattle.gate_bytes.proofs.Members.{Contains-head, Contains-rest}
use Rattle.gate_pool.proofs.Adding.{found_by_id}
use Rattle.gate_pool.proofs.Ids.{is_among_ids}
use Rattle.gate_pool.proofs.Walking.{Contains-from_filter}
use Rattle.gate_rbf.specs.Replacing.{descendant_count}
use Rattle.gate_rivals.specs.Rivals.{have_too_many, is_rival, point_of, replaced_together, rivals_of}
use Rattle.gate_rivals.proofs.Replacing.{any_agree}

-- inputs that spend the same have the same spenders
pub same_spenders : (xs ys : List TxIn) → map point_of xs ≡ map point_of ys → (e : Admitted) → spends_one_of xs e ≡ spends_one_of ys e
same_spenders xs ys same e =
    points (λ (p : OutPoint). spends e.tx.inputs p) xs ∙ (ap (list_any (λ (p : OutPoint). spends e.tx.inputs p)) same ∙ sym (points (λ (p : OutPoint). spends e.tx.inputs p) ys))
  where
    points : (test : OutPoint → Bool) (zs : List TxIn) → list_any (λ (i : TxIn). test i.prevout) zs ≡ list_any test (map point_of zs)
    points test [] = refl
    points test (z ∷ zs) = ap (λ b. test z.prevout || b) (points test zs)

pub same_rivals : (entries : List Admitted) (xs ys : List TxIn) → map point_of xs ≡ map point_of ys → filter (spends_one_of xs) entries ≡ filter (spends_one_of ys) entries
same_rivals entries xs ys same = ap (λ (test : Admitted → Bool). filter test entries) (λ i e. same_spenders xs ys same e i)

-- nothing else stays behind them
pub same_staying : (entries : List Admitted) (xs ys : List TxIn) → map point_of xs ≡ map point_of ys → without_below (spends_one_of xs) entries ≡ without_below (spends_one_of ys) entries
same_staying entries xs ys same = ap (λ (test : Admitted → Bool). without_below test entries) (λ i e. same_spenders xs ys same e i)

-- what is below those with some ids is what is below those that pass a test, if these have the ids
pub below_ids : (entries : List Admitted) (test : Admitted → Bool) (ids : List (List ℕ)) → AreDistinct entries → AreIdsOf ids (filter test entries) → all_below (is_among ids) entries ≡ all_below test entries
below_ids entries test ids distinct are = ap (λ (t : Admitted → Bool). filter t entries) (λ i e. same e i)
  where
    same : (e : Admitted) → is_below_some (is_among ids) entries e ≡ is_below_some test entries e
    same e =
        any_agree (λ (a : Admitted). is_among ids a && reaches (steps entries) (txid_of a.tx) (txid_of e.tx)) (λ (a : Admitted). test a && reaches (steps entries) (txid_of a.tx) (txid_of e.tx)) entries
        (λ a m. ap (λ b. b && reaches (steps entries) (txid_of a.tx) (txid_of e.tx)) (is_among_ids entries test ids distinct are a m))

-- the next of the entries whose ids are gone through
pub listed_at : (these : List Admitted) (k : ℕ) (id : List ℕ) → k < length (listing_of these) → get_or (listing_of these) k id ≡ id
    → (e : Admitted) × Contains these e × (txid_of e.tx ≡ id) × (take (suc k) these ≡ take k these ++ e ∷ [])
listed_at [] k id within here = absurd (omega (arith, within))
listed_at (x ∷ xs) zero id within here = (x, Contains-head x xs, here, refl)
listed_at (x ∷ xs) (suc k) id within here =
    let w = listed_at xs k id (omega (arith, within)) here in
    (w.0, Contains-rest x xs w.0 w.1, w.2, ap (λ (l : List Admitted). x ∷ l) w.3)

-- it is found by its id
pub found_next : (entries : List Admitted) → AreDistinct entries → (test : Admitted → Bool) (ids : List (List ℕ)) (k : ℕ) (id : List ℕ) → ids ≡ listing_of (filter test entries) → k < length ids → get_or ids k id ≡ id
    → (e : Admitted) × (entry_by_txid entries id ≡ Some e) × (take (k + 1) (filter test entries) ≡ take k (filter test entries) ++ e ∷ [])
found_next entries distinct test ids k id listed within here =
    let w = listed_at (filter test entries) k id (subst (λ (l : List (List ℕ)). k < length l) listed within) (subst (λ (l : List (List ℕ)). get_or l k id ≡ id) listed here) in (
      w.0,
      ap (entry_by_txid entries) (sym w.2) ∙ found_by_id entries distinct.txids w.0 (Contains-from_filter test entries w.0 w.1),
      ap (λ n. take n (filter test entries)) (add-one k) ∙ w.3,
    )

-- ---- how many they are

union : {X : Type 0} (p q : X → Bool) (xs : List X) → length (filter (λ x. p x || q x) xs) ≤ length (filter p xs) + length (filter q xs)
union p q [] = omega arith
union {X} p q (x ∷ xs) = by (p x) (q x) (union p q xs)
  where
    by : (a b : Bool) → length (filter (λ y. p y || q y) xs) ≤ length (filter p xs) + length (filter q xs)
        → length (cond (a || b) (x ∷ filter (λ y. p y || q y) xs) (filter (λ y. p y || q y) xs)) ≤ length (cond a (x ∷ filter p xs) (filter p xs)) + length (cond b (x ∷ filter q xs) (filter q xs))
    by true true h = omega arith
    by true false h = omega arith
    by false true h = omega arith
    by false false h = h

none_kept : {X : Type 0} (xs : List X) → length (filter (λ x. false) xs) ≡ 0
none_kept [] = refl
none_kept (x ∷ xs) = none_kept xs

counted_by : (R : Admitted → Admitted → Bool) (test : Admitted → Bool) (some entries : List Admitted)
    → length (filter (λ e. list_any (λ a. test a && R a e) some) entries) ≤ sum_by (λ a. length (filter (R a) entries)) (filter test some)
counted_by R test [] entries = omega (arith, none_kept entries)
counted_by R test (a ∷ some) entries = by (test a) (counted_by R test some entries)
  where
    by : (b : Bool) → length (filter (λ e. list_any (λ x. test x && R x e) some) entries) ≤ sum_by (λ x. length (filter (R x) entries)) (filter test some) → length (filter (λ e. (b && R a e) || list_any (λ x. test x && R x e) some) entries) ≤ sum_by (λ x. length (filter (R x) entries)) (cond b (a ∷ filter test some) (filter test some))
    by true h =
        omega (arith, union (R a) (λ e. list_any (λ x. test x && R x e) some) entries, h, sum_by-cons (λ x. length (filter (R x) entries)) a (filter test some))
    by false h = h

-- what is below entries is no more than the descendants of each of them together
pub below_few : (entries : List Admitted) (test : Admitted → Bool) → length (all_below test entries) ≤ descendant_count entries (filter test entries)
below_few entries test = counted_by (λ a e. reaches (steps entries) (txid_of a.tx) (txid_of e.tx)) test entries entries

pub replaced_few : (entries : List Admitted) (txs : List Tx) → have_too_many entries (rivals_of entries txs) ≡ false → length (replaced_together entries txs) ≤ 100
replaced_few entries txs h = omega (arith, below_few entries (is_rival txs), ltb-false 100 (descendant_count entries (rivals_of entries txs)) h)
