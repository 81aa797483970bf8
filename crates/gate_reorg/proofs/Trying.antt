-- Transactions that are tried again keep entries sound but for what is still to come.
use Rattle.std.proofs.Common.{◌≡◌, ◌≢◌, ◌≤◌, ◌||◌, ◌&&◌, ℕ, Bool, true, false, not, List, [], ◌∷◌, ◌++◌, get_or, Some, Result, Ok, Err, refl, sym, ap, ◌∙◌, subst, ◌⊎◌, inl, inr, ⊎_elim, append-nil}
use Rattle.std.specs.Prelude.{Contains, IsSome}
use Rattle.std.specs.List.{All, AllPairs, list_any}
use Rattle.std.specs.Str.{bytes_eq}
use Rattle.std.specs.Cmp.Lexicographic.{bytes_decides}
use Rattle.std.proofs.lemmas.Bool.{true≢false, false_from_ne_true, and_parts}
use Rattle.std.proofs.lemmas.Grind.{flat_map-append}
use Rattle.std.proofs.lemmas.List.Elements.{All-append, All-contains, All-filter, Contains-get_or, Contains-append_left, Contains-append_right, Contains-append_cases}
use Rattle.gate_bytes.specs.Order.{first_failing}
use Rattle.gate_graph.specs.Family.{reaches}
use Rattle.gate_bytes.proofs.Members.{Contains-cons_cases, Contains-head, Contains-rest, any_is, list_any_of, not_in_none}
use Rattle.gate_tx.specs.declared.OutPoint.{OutPoint}
use Rattle.gate_tx.specs.declared.TxIn.{TxIn}
use Rattle.gate_tx.specs.Ids.{txid_of, wtxid_of}
use Rattle.gate_tx.specs.Text.{IsTx}
use Rattle.gate_tx.specs.Tx.{Tx}
use Rattle.gate_rules.specs.declared.Denial.{Denial}
use Rattle.gate_chain.specs.Coins.{coin_of, has_txid, has_transaction, is_known_txid, opened_with_of}
use Rattle.gate_chain.specs.History.{History}
use Rattle.gate_pool.specs.Pool.{Admitted, spends_of, spent_by}
use Rattle.gate_pool.specs.Family.{steps, names, is_below_some, is_conflict, without_below, ancestors_above, entered}
use Rattle.gate_pool.proofs.Entries.{Id, Contains-map, entry_step}
use Rattle.gate_pool.proofs.Walking.{Contains-filter}
use Rattle.gate_admit.specs.Policies.{Policy}
use Rattle.gate_admit.specs.declared.Attempt.TheVariants.{Again}
use Rattle.gate_admit.specs.declared.Grant.{Grant}
use Rattle.gate_admit.specs.Coins.{view_coin}
use Rattle.gate_admit.specs.Good.{AreApart, IsLimited, IsSettled, connected_transactions}
use Rattle.gate_admit.specs.Granting.{IsGrantable}
use Rattle.gate_admit.specs.Rules.{admission_rules, decision_of, grant_of}
use Rattle.gate_admit.specs.Standing.{Standing}
use Rattle.gate_admit.specs.Submission.{admitted}
use Rattle.gate_admit.proofs.Granted.{Differ, decided_live, decided_small, granted}
use Rattle.gate_admit.proofs.Lists.{AllPairs-one, AllPairs-append, All-one}
use Rattle.gate_admit.proofs.Readmitted.{again_limited}
use Rattle.gate_admit.proofs.Removing.{DifferByTxid, DifferByWtxid}
use Rattle.gate_admit.proofs.Staying.{is_below, below_some_closed, stays_apart, stays_beside, stays_within}
use Rattle.gate_admit.proofs.Unconnected.{unconnected}
use Rattle.gate_reorg.specs.Reorganisation.{Terms, standing_again, tried, tried_again, all_tried_again}
use Rattle.gate_reorg.proofs.Leaving.{AreOrderly, orderly_part}
use Rattle.gate_reorg.proofs.Making.{makes, makes_by, MadeBy, PoolMakes, view_cases, view_chain, view_pool}
use Rattle.gate_reorg.proofs.Awaiting.{IsSoundBut}

-- ---- entries go with all that is below them

-- the parent of what stays stays
pub parent_stays : (test : Admitted → Bool) (entries : List Admitted) (e a : Admitted) (i : TxIn) → Contains (without_below test entries) e → Contains e.tx.inputs i → Contains entries a
    → txid_of a.tx ≡ i.prevout.txid → Contains (without_below test entries) a
parent_stays test entries e a i m c at id =
    Contains-filter (λ (x : Admitted). not (is_below_some test entries x)) entries a at
    (ap not (false_from_ne_true _ (λ (below : is_below test entries (txid_of a.tx) ≡ true).
    true≢false (sym (below_some_closed test entries (txid_of a.tx) (txid_of e.tx)
    (subst (λ (x : Id). Contains (steps entries) (x, txid_of e.tx)) (sym id) (entry_step entries e i (stays_within test entries e m) c)) below)
    ∙ stays_beside test entries e m))))

pub below_kept : (policy : Policy) (pending : List Tx) (chain : History) (test : Admitted → Bool) (entries : List Admitted) → IsSoundBut policy pending chain entries → IsSoundBut policy pending chain (without_below test entries)
below_kept policy pending chain test entries h =
    let left = without_below test entries in
    let orderly : AreOrderly policy left = orderly_part policy (λ (x : Admitted). not (is_below_some test entries x)) entries h.orderly in
    record {
      orderly = orderly;
      coins = λ e m i c. ⊎_elim
          (λ (k : IsSome (view_coin chain entries i.prevout)). inl (⊎_elim
          (λ (w : PoolMakes entries i.prevout). view_pool chain left i.prevout orderly.txids (w.0, parent_stays test entries e w.0 i m c w.1 (makes_by w.0.tx i.prevout w.2), w.2))
          (λ (k : IsSome (coin_of chain i.prevout)). view_chain chain left i.prevout k)
          (view_cases chain entries i.prevout k)))
          (λ (k : MadeBy pending i.prevout). inr k)
          (h.coins e (stays_within test entries e m) i c);
      fresh = λ e m. h.fresh e (stays_within test entries e m);
    }

-- ---- one that is refused

one_of : (t : Tx) (ts : List Tx) (p : OutPoint) → MadeBy (t ∷ ts) p → (makes t p ≡ true) ⊎ MadeBy ts p
one_of t ts p w =
    ⊎_elim (λ (e : t ≡ w.0). inl (ap (λ (u : Tx). makes u p) e ∙ w.2)) (λ (k : Contains ts w.0). inr (w.0, k, w.2)) (Contains-cons_cases t ts w.0 w.1)

pub refused_kept : (policy : Policy) (chain : History) (entries : List Admitted) (t : Tx) (ts : List Tx) → IsSoundBut policy (t ∷ ts) chain entries → IsSoundBut policy ts chain (without_below (λ (e : Admitted). names e (txid_of t)) entries)
refused_kept policy chain entries t ts h =
    let test : Admitted → Bool = λ e. names e (txid_of t) in
    let k = below_kept policy (t ∷ ts) chain test entries h in
    record {
      orderly = k.orderly;
      coins = λ e m i c. ⊎_elim
          (λ (v : IsSome (view_coin chain (without_below test entries) i.prevout)). inl v)
          (λ (w : MadeBy (t ∷ ts) i.prevout). ⊎_elim
          (λ (own : makes t i.prevout ≡ true). absurd (true≢false (sym
          (list_any_of (λ (j : TxIn). bytes_eq j.prevout.txid (txid_of t)) e.tx.inputs i c ((bytes_decides i.prevout.txid (txid_of t)).1 (sym (makes_by t i.prevout own))))
          ∙ stays_apart test entries e m)))
          (λ (w : MadeBy ts i.prevout). inr w)
          (one_of t ts i.prevout w))
          (k.coins e m i c);
      fresh = k.fresh;
    }

-- ---- one that is granted

pub spent_by-push : (entries : List Admitted) (e : Admitted) → spent_by (entries ++ e ∷ []) ≡ spent_by entries ++ spends_of e.tx
spent_by-push entries e = flat_map-append (λ (e : Admitted). spends_of e.tx) entries (e ∷ []) ∙ ap (λ l. spent_by entries ++ l) (append-nil (spends_of e.tx))

neither : (a b : Bool) → a ≡ false → b ≡ false → (a || b) ≡ false
neither a b h k = rw (h, k) refl

unknown : (chain : History) (txid : List ℕ) → opened_with_of chain txid ≡ false → list_any (has_transaction txid) chain.blocks ≡ false → is_known_txid chain txid ≡ false
unfolding opened_with_of is_known_txid
unknown chain txid h k = neither (has_txid txid chain.coins) (list_any (has_transaction txid) chain.blocks) h k

-- what it spends is below no conflict (A37)
own_beside : (over : Standing) (t : Tx) → IsGrantable over t → (i : TxIn) → Contains t.inputs i → is_below (is_conflict t) over.entries i.prevout.txid ≡ false
own_beside over t k i c = false_from_ne_true _ (λ h.
    let w = any_is (λ (a : Admitted). is_conflict t a && reaches (steps over.entries) (txid_of a.tx) i.prevout.txid) over.entries h in
    let p = and_parts _ _ w.2 in
    let above : Contains (ancestors_above over.entries t.inputs) w.0 =
    Contains-filter (λ (a : Admitted). list_any (λ (j : TxIn). reaches (steps over.entries) (txid_of a.tx) j.prevout.txid) t.inputs) over.entries w.0 w.1
    (list_any_of (λ (j : TxIn). reaches (steps over.entries) (txid_of w.0.tx) j.prevout.txid) t.inputs i c p.1) in
    true≢false (sym p.0 ∙ All-contains (λ (a : Admitted). is_conflict t a ≡ false) (ancestors_above over.entries t.inputs) w.0 k.beside above))

module _
    (over : Standing) (t : Tx) (ts : List Tx) (grant : Grant) (now : ℕ) (h : IsSoundBut over.policy (t ∷ ts) over.chain over.entries) (k : IsGrantable over t) (fresh : is_known_txid over.chain (txid_of t) ≡ false)
    (light : grant.vsize ≤ 100000)
    (limited : All (λ (a : Admitted). IsLimited over.policy (entered over.entries (admitted t grant now)) (txid_of a.tx)) (entered over.entries (admitted t grant now)))
  where
    left_is : IsSoundBut over.policy (t ∷ ts) over.chain (without_below (is_conflict t) over.entries)
    left_is = below_kept over.policy (t ∷ ts) over.chain (is_conflict t) over.entries h

    orderly_now : AreOrderly over.policy (entered over.entries (admitted t grant now))
    orderly_now =
        let e = admitted t grant now in
        let left = without_below (is_conflict t) over.entries in
        let stays : Admitted → Bool = λ a. not (is_below_some (is_conflict t) over.entries a) in
        record {
          bounds = left_is.orderly.bounds;
          txids = AllPairs-append DifferByTxid left (e ∷ []) left_is.orderly.txids (AllPairs-one DifferByTxid e)
              (λ n d l. All-one (λ (b : Admitted). txid_of (get_or left n d).tx ≢ txid_of b.tx) e (All-filter stays (λ (a : Admitted). txid_of a.tx ≢ txid_of t) over.entries k.txid n d l));
          wtxids = AllPairs-append DifferByWtxid left (e ∷ []) left_is.orderly.wtxids (AllPairs-one DifferByWtxid e)
              (λ n d l. All-one (λ (b : Admitted). wtxid_of (get_or left n d).tx ≢ wtxid_of b.tx) e (All-filter stays (λ (a : Admitted). wtxid_of a.tx ≢ wtxid_of t) over.entries k.wtxid n d l));
          spends = subst (AllPairs Differ) (sym (spent_by-push left e)) (AllPairs-append Differ (spent_by left) (spends_of t) left_is.orderly.spends k.single k.unspent);
          light = All-append (λ (a : Admitted). a.vsize ≤ 100000) left (e ∷ []) left_is.orderly.light (All-one (λ (a : Admitted). a.vsize ≤ 100000) e light);
          limited = limited;
        }

    -- what stays makes its coins still
    made_still : (p : OutPoint) → PoolMakes (without_below (is_conflict t) over.entries) p → IsSome (view_coin over.chain (entered over.entries (admitted t grant now)) p)
    made_still p w = view_pool over.chain (entered over.entries (admitted t grant now)) p orderly_now.txids (w.0, Contains-append_left (without_below (is_conflict t) over.entries) ((admitted t grant now) ∷ []) w.0 w.1, w.2)

    still : (p : OutPoint) → IsSome (view_coin over.chain (without_below (is_conflict t) over.entries) p) → IsSome (view_coin over.chain (entered over.entries (admitted t grant now)) p)
    still p v =
        ⊎_elim (made_still p) (λ (c : IsSome (coin_of over.chain p)). view_chain over.chain (entered over.entries (admitted t grant now)) p c)
        (view_cases over.chain (without_below (is_conflict t) over.entries) p v)

    own_coin : (i : TxIn) → Contains t.inputs i → IsSome (view_coin over.chain (entered over.entries (admitted t grant now)) i.prevout)
    own_coin i c =
        ⊎_elim
        (λ (w : PoolMakes over.entries i.prevout).
        made_still i.prevout (
          w.0,
          Contains-filter (λ (x : Admitted). not (is_below_some (is_conflict t) over.entries x)) over.entries w.0 w.1
              (ap not (ap (is_below (is_conflict t) over.entries) (makes_by w.0.tx i.prevout w.2) ∙ own_beside over t k i c)),
          w.2,
        ))
        (λ (v : IsSome (coin_of over.chain i.prevout)). view_chain over.chain (entered over.entries (admitted t grant now)) i.prevout v)
        (view_cases over.chain over.entries i.prevout
        (All-contains (λ (p : OutPoint). IsSome (view_coin over.chain over.entries p)) (spends_of t) i.prevout k.coins (Contains-map (λ (j : TxIn). j.prevout) t.inputs i c)))

    -- what it makes is a coin
    newly_made : (p : OutPoint) → makes t p ≡ true → IsSome (view_coin over.chain (entered over.entries (admitted t grant now)) p)
    newly_made p m =
        view_pool over.chain (entered over.entries (admitted t grant now)) p orderly_now.txids
        (admitted t grant now, Contains-append_right (without_below (is_conflict t) over.entries) ((admitted t grant now) ∷ []) (admitted t grant now) (Contains-head (admitted t grant now) []), m)

    is_new : (a : Admitted) → Contains ((admitted t grant now) ∷ []) a → admitted t grant now ≡ a
    is_new a m = ⊎_elim (λ (e : admitted t grant now ≡ a). e) (λ n. not_in_none a n) (Contains-cons_cases (admitted t grant now) [] a m)

    pub granted_kept : IsSoundBut over.policy ts over.chain (entered over.entries (admitted t grant now))
    granted_kept = record {
      orderly = orderly_now;
      coins = λ a m i c. ⊎_elim
          (λ (l : Contains (without_below (is_conflict t) over.entries) a). ⊎_elim
          (λ v. inl (still i.prevout v))
          (λ (w : MadeBy (t ∷ ts) i.prevout). ⊎_elim (λ (own : makes t i.prevout ≡ true). inl (newly_made i.prevout own)) (λ (w : MadeBy ts i.prevout). inr w) (one_of t ts i.prevout w))
          (left_is.coins a l i c))
          (λ (l : Contains ((admitted t grant now) ∷ []) a). inl (own_coin i (subst (λ (x : Admitted). Contains x.tx.inputs i) (sym (is_new a l)) c)))
          (Contains-append_cases (without_below (is_conflict t) over.entries) ((admitted t grant now) ∷ []) a m);
      fresh = λ a m. ⊎_elim
          (λ (l : Contains (without_below (is_conflict t) over.entries) a). left_is.fresh a l)
          (λ (l : Contains ((admitted t grant now) ∷ []) a). subst (λ (x : Admitted). is_known_txid over.chain (txid_of x.tx) ≡ false) (is_new a l) fresh)
          (Contains-append_cases (without_below (is_conflict t) over.entries) ((admitted t grant now) ∷ []) a m);
    }

-- ---- one after another

granted_new : (over : Standing) (t : Tx) (grant : Grant) → IsSettled over.chain → ((e : Admitted) → Contains over.entries e → is_known_txid over.chain (txid_of e.tx) ≡ false) → IsTx t → AreApart (t ∷ connected_transactions over.chain)
    → decision_of Again over (Some t) ≡ Ok grant → is_known_txid over.chain (txid_of t) ≡ false
unfolding decision_of
granted_new over t grant settled fresh is_tx apart d =
    let passes = (granted (first_failing (admission_rules Again over t)) (grant_of Again over t) grant d).0 in
    unknown over.chain (txid_of t) (decided_live Again over t grant d).fresh
    (unconnected Again over t settled (λ k e l. fresh (get_or over.entries k e) (Contains-get_or over.entries k e l)) is_tx apart passes)

module _ (under : Terms) (settled : IsSettled under.chain) where
  tried_kept : (entries : List Admitted) (t : Tx) (ts : List Tx) → IsTx t → AreApart (t ∷ connected_transactions under.chain) → IsSoundBut under.policy (t ∷ ts) under.chain entries
      → IsSoundBut under.policy ts under.chain (tried_again under entries t)
  unfolding tried_again
  tried_kept entries t ts is_tx apart h = go (decision_of Again (standing_again under entries) (Some t)) refl
    where
      go : (d : Result Grant Denial) → decision_of Again (standing_again under entries) (Some t) ≡ d → IsSoundBut under.policy ts under.chain (tried entries t under.second d)
      go (Ok grant) e =
          granted_kept (standing_again under entries) t ts grant under.second h (decided_live Again (standing_again under entries) t grant e)
          (granted_new (standing_again under entries) t grant settled h.fresh is_tx apart e)
          (decided_small Again (standing_again under entries) t grant h.orderly.bounds e)
          (again_limited (standing_again under entries) t grant under.second h.orderly.limited e)
      go (Err denial) e = refused_kept under.policy under.chain entries t ts h

  pub all_tried_kept : (entries : List Admitted) (ts : List Tx) → ((t : Tx) → Contains ts t → IsTx t) → ((t : Tx) → Contains ts t → AreApart (t ∷ connected_transactions under.chain))
      → IsSoundBut under.policy ts under.chain entries → IsSoundBut under.policy [] under.chain (all_tried_again under entries ts)
  all_tried_kept entries [] spelled apart h = h
  all_tried_kept entries (t ∷ ts) spelled apart h =
      all_tried_kept (tried_again under entries t) ts (λ u m. spelled u (Contains-rest t ts u m)) (λ u m. apart u (Contains-rest t ts u m))
      (tried_kept entries t ts (spelled t (Contains-head t ts)) (apart t (Contains-head t ts)) h)
