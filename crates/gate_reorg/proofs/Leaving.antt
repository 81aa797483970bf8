-- What is left of entries when blocks have transactions.
use Rattle.std.proofs.Common.{◌≡◌, ◌≢◌, ◌≤◌, Bool, true, false, not, List, [], ◌∷◌, sym, ap, ◌∙◌, subst, ◌⊎◌, inl, inr, ⊎_elim, arith, cond}
use Rattle.std.specs.Prelude.{Contains, filter}
use Rattle.std.specs.List.{All, AllPairs}
use Rattle.std.specs.Cmp.Lexicographic.{bytes_decides}
use Rattle.std.proofs.lemmas.Bool.{true≢false, false_from_ne_true, not-true, cases_Bool}
use Rattle.std.proofs.lemmas.List.Elements.{All-contains, All-filter, All-weaker, filter_passes}
use Rattle.std.proofs.lemmas.List.Kept.{AllPairs-filter}
use Rattle.std.proofs.lemmas.List.Sums.{sum_by-cons}
use Rattle.gate_bytes.proofs.Members.{Contains-cons_cases, Contains-head, Contains-rest, not_in_none, any_is, list_any_of}
use Rattle.gate_tx.specs.declared.TxIn.{TxIn}
use Rattle.gate_tx.specs.Coins.{point_eq, spends}
use Rattle.gate_tx.specs.Equality.{out_point_decides}
use Rattle.gate_tx.specs.Ids.{txid_of}
use Rattle.gate_tx.specs.Tx.{Tx}
use Rattle.gate_pool.specs.Pool.{Admitted, has_txid, spends_of, spent_by, size_of}
use Rattle.gate_pool.specs.Family.{steps, is_below_some, is_conflict, without_below}
use Rattle.gate_pool.proofs.Entries.{Id, entry_step}
use Rattle.gate_pool.proofs.Walking.{Contains-filter, Contains-from_filter}
use Rattle.gate_admit.specs.Good.{IsLimited}
use Rattle.gate_admit.specs.Policies.{Policy, IsPolicy}
use Rattle.gate_admit.proofs.Filtering.{AllPairs-flat_map_filter}
use Rattle.gate_admit.proofs.Granted.{Differ}
use Rattle.gate_admit.proofs.Removing.{DifferByTxid, DifferByWtxid, limited_part}
use Rattle.gate_admit.proofs.Staying.{is_below, below_some_closed, stays_apart, stays_beside, stays_within}
use Rattle.gate_reorg.specs.Reorganisation.{without_txid, confirmed, all_confirmed}

-- ---- what any part keeps

-- entries are told apart, no outpoint is spent twice, and families are within their limits
pub record AreOrderly (policy : Policy) (entries : List Admitted) : Type 0 where
  pub bounds : IsPolicy policy
  pub txids : AllPairs DifferByTxid entries
  pub wtxids : AllPairs DifferByWtxid entries
  pub spends : AllPairs Differ (spent_by entries)
  pub light : All (λ (e : Admitted). e.vsize ≤ 100000) entries
  pub limited : All (λ (e : Admitted). IsLimited policy entries (txid_of e.tx)) entries

pub orderly_part : (policy : Policy) (k : Admitted → Bool) (entries : List Admitted) → AreOrderly policy entries → AreOrderly policy (filter k entries)
orderly_part policy k entries h = record {
  bounds = h.bounds;
  txids = AllPairs-filter DifferByTxid k entries h.txids;
  wtxids = AllPairs-filter DifferByWtxid k entries h.wtxids;
  spends = AllPairs-flat_map_filter (λ (e : Admitted). spends_of e.tx) Differ k entries h.spends;
  light = All-filter k (λ (e : Admitted). e.vsize ≤ 100000) entries h.light;
  limited = All-weaker (λ (e : Admitted). IsLimited policy entries (txid_of e.tx)) (λ (e : Admitted). IsLimited policy (filter k entries) (txid_of e.tx))
      (λ e. limited_part policy k entries (txid_of e.tx)) (filter k entries) (All-filter k (λ (e : Admitted). IsLimited policy entries (txid_of e.tx)) entries h.limited);
}

fewer : (k : Admitted → Bool) (entries : List Admitted) → size_of (filter k entries) ≤ size_of entries
fewer k [] = omega arith
fewer k (e ∷ entries) = go (k e) (fewer k entries)
  where
    go : (b : Bool) → size_of (filter k entries) ≤ size_of entries → size_of (cond b (e ∷ filter k entries) (filter k entries)) ≤ size_of (e ∷ entries)
    go true h = omega (arith, h, sum_by-cons (λ (a : Admitted). a.vsize) e (filter k entries), sum_by-cons (λ (a : Admitted). a.vsize) e entries)
    go false h = omega (arith, h, sum_by-cons (λ (a : Admitted). a.vsize) e entries)

-- ---- what new blocks leave

-- what is left of entries when blocks have these transactions: none of their ids, nothing that spends what they spend, and each
-- parent of what is left that no block has
pub record Leaves (entries left : List Admitted) (new : List Tx) : Type 0 where
  pub orderly : (policy : Policy) → AreOrderly policy entries → AreOrderly policy left
  pub size : size_of left ≤ size_of entries
  pub within : (e : Admitted) → Contains left e → Contains entries e
  pub apart : (e : Admitted) → Contains left e → (t : Tx) → Contains new t → txid_of e.tx ≢ txid_of t
  pub unspent : (e : Admitted) → Contains left e → (i : TxIn) → Contains e.tx.inputs i → (t : Tx) → Contains new t → spends t.inputs i.prevout ≡ false
  pub parents : (e : Admitted) → Contains left e → (i : TxIn) → Contains e.tx.inputs i → (a : Admitted) → Contains entries a → txid_of a.tx ≡ i.prevout.txid
      → Contains left a ⊎ ((t : Tx) × Contains new t × (txid_of t ≡ i.prevout.txid))

module _ (entries : List Admitted) (t : Tx) where
  unspent_here : (e : Admitted) → is_conflict t e ≡ false → (i : TxIn) → Contains e.tx.inputs i → spends t.inputs i.prevout ≡ false
  unspent_here e beside i c = false_from_ne_true _ (λ h.
      let j = any_is (λ (j : TxIn). point_eq j.prevout i.prevout) t.inputs h in
      let same : j.0.prevout ≡ i.prevout = (out_point_decides j.0.prevout i.prevout).0 j.2 in
      true≢false (sym (list_any_of (λ (k : TxIn). spends e.tx.inputs k.prevout) t.inputs j.0 j.1
      (list_any_of (λ (k : TxIn). point_eq k.prevout j.0.prevout) e.tx.inputs i c ((out_point_decides i.prevout j.0.prevout).1 (sym same)))) ∙ beside))

  pub confirmed_leaves : Leaves entries (confirmed entries t) (t ∷ [])
  unfolding confirmed
  confirmed_leaves =
      let from_mid : (e : Admitted) → Contains (without_txid entries (txid_of t)) e → Contains entries e = λ e m. Contains-from_filter (λ (a : Admitted). not (has_txid a (txid_of t))) entries e m in
      let to_mid : (e : Admitted) → Contains (without_below (is_conflict t) (without_txid entries (txid_of t))) e → Contains (without_txid entries (txid_of t)) e = λ e m. stays_within (is_conflict t) (without_txid entries (txid_of t)) e m in
      record {
        orderly = λ policy h. orderly_part policy (λ (a : Admitted). not (is_below_some (is_conflict t) (without_txid entries (txid_of t)) a)) (without_txid entries (txid_of t)) (orderly_part policy (λ (a : Admitted). not (has_txid a (txid_of t))) entries h);
        size = omega (arith, fewer (λ (a : Admitted). not (is_below_some (is_conflict t) (without_txid entries (txid_of t)) a)) (without_txid entries (txid_of t)), fewer (λ (a : Admitted). not (has_txid a (txid_of t))) entries);
        within = λ e m. from_mid e (to_mid e m);
        apart = λ e m u k same.
            let passes : not (has_txid e (txid_of t)) ≡ true = All-contains (λ (a : Admitted). not (has_txid a (txid_of t)) ≡ true) (without_txid entries (txid_of t)) e (filter_passes (λ (a : Admitted). not (has_txid a (txid_of t))) entries) (to_mid e m) in
            let one : t ≡ u = ⊎_elim (λ (e : t ≡ u). e) (λ n. not_in_none u n) (Contains-cons_cases t [] u k) in
            true≢false (sym ((bytes_decides (txid_of e.tx) (txid_of t)).1 (same ∙ ap txid_of (sym one))) ∙ not-true _ passes);
        unspent = λ e m i c u k.
            ⊎_elim (λ (one : t ≡ u). subst (λ (v : Tx). spends v.inputs i.prevout ≡ false) one (unspent_here e (stays_apart (is_conflict t) (without_txid entries (txid_of t)) e m) i c))
            (λ n. not_in_none u n) (Contains-cons_cases t [] u k);
        parents = λ e m i c a at id. ⊎_elim
            (λ (k : has_txid a (txid_of t) ≡ true). inr (t, Contains-head t [], sym ((bytes_decides (txid_of a.tx) (txid_of t)).0 k) ∙ id))
            (λ (k : has_txid a (txid_of t) ≡ false).
            inl (Contains-filter (λ (x : Admitted). not (is_below_some (is_conflict t) (without_txid entries (txid_of t)) x)) (without_txid entries (txid_of t)) a
            (Contains-filter (λ (x : Admitted). not (has_txid x (txid_of t))) entries a at (ap not k))
            (ap not (false_from_ne_true _ (λ (below : is_below (is_conflict t) (without_txid entries (txid_of t)) (txid_of a.tx) ≡ true).
            true≢false (sym (below_some_closed (is_conflict t) (without_txid entries (txid_of t)) (txid_of a.tx) (txid_of e.tx)
            (subst (λ (x : Id). Contains (steps (without_txid entries (txid_of t))) (x, txid_of e.tx)) (sym id) (entry_step (without_txid entries (txid_of t)) e i (to_mid e m) c)) below)
            ∙ stays_beside (is_conflict t) (without_txid entries (txid_of t)) e m))))))
            (cases_Bool (has_txid a (txid_of t)));
      }

leaves_all : (entries : List Admitted) → Leaves entries entries []
leaves_all entries = record {
  orderly = λ policy h. h;
  size = omega arith;
  within = λ e m. m;
  apart = λ e m t k. not_in_none t k;
  unspent = λ e m i c t k. not_in_none t k;
  parents = λ e m i c a at id. inl at;
}

leaves_more : (entries middle left : List Admitted) (t : Tx) (txs : List Tx) → Leaves entries middle (t ∷ []) → Leaves middle left txs → Leaves entries left (t ∷ txs)
leaves_more entries middle left t txs h k = record {
  orderly = λ policy o. k.orderly policy (h.orderly policy o);
  size = omega (arith, h.size, k.size);
  within = λ e m. h.within e (k.within e m);
  apart = λ e m u c. ⊎_elim (λ (s : t ≡ u). h.apart e (k.within e m) u (subst (λ (v : Tx). Contains (t ∷ []) v) s (Contains-head t []))) (λ n. k.apart e m u n) (Contains-cons_cases t txs u c);
  unspent = λ e m i c u n. ⊎_elim (λ (s : t ≡ u). h.unspent e (k.within e m) i c u (subst (λ (v : Tx). Contains (t ∷ []) v) s (Contains-head t []))) (λ l. k.unspent e m i c u l) (Contains-cons_cases t txs u n);
  parents = λ e m i c a at id. ⊎_elim
      (λ (n : Contains middle a). ⊎_elim (λ (l : Contains left a). inl l) (λ w. inr (w.0, Contains-rest t txs w.0 w.1, w.2)) (k.parents e m i c a n id))
      (λ w. inr (t, Contains-head t txs, ap txid_of (⊎_elim (λ (s : t ≡ w.0). s) (λ n. not_in_none w.0 n) (Contains-cons_cases t [] w.0 w.1)) ∙ w.2))
      (h.parents e (k.within e m) i c a at id);
}

pub all_confirmed_leaves : (entries : List Admitted) (txs : List Tx) → Leaves entries (all_confirmed entries txs) txs
all_confirmed_leaves entries [] = leaves_all entries
all_confirmed_leaves entries (t ∷ txs) = leaves_more entries (confirmed entries t) (all_confirmed (confirmed entries t) txs) t txs (confirmed_leaves entries t) (all_confirmed_leaves (confirmed entries t) txs)
