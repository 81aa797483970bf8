-- Entries stay sound over a chain where some go with all that is below them.
use Rattle.std.proofs.Common.{◌≡◌, ◌≢◌, ◌≤◌, ℕ, Bool, true, false, not, List, sym, ◌∙◌, subst, arith, get_or}
use Rattle.std.specs.Prelude.{Contains, filter, sum_by, IsSome}
use Rattle.std.specs.List.{All}
use Rattle.std.proofs.lemmas.Bool.{true≢false, false_from_ne_true, not-true}
use Rattle.std.proofs.lemmas.List.Elements.{All-contains, All-filter, All-weaker, Contains-get_or, filter_passes}
use Rattle.std.proofs.lemmas.List.Kept.{AllPairs-filter}
use Rattle.gate_tx.specs.declared.OutPoint.{OutPoint}
use Rattle.gate_tx.specs.declared.TxIn.{TxIn}
use Rattle.gate_tx.specs.Ids.{txid_of, wtxid_of}
use Rattle.gate_graph.specs.Family.{reaches}
use Rattle.gate_graph.proofs.Reaching.{reaches_from_Leads, Leads_from_reaches, Leads_more}
use Rattle.gate_chain.specs.Coins.{is_known_txid}
use Rattle.gate_chain.specs.History.{History}
use Rattle.gate_pool.specs.Pool.{Admitted, spends_of, spent_by}
use Rattle.gate_pool.specs.Family.{steps, without_below, without_family, ancestors_of, descendants_of}
use Rattle.gate_pool.proofs.Entries.{Id, entry_step, step_entry, Contains-map, Contains-from_map}
use Rattle.gate_pool.proofs.Removals.{kept, below_closed}
use Rattle.gate_pool.proofs.Walking.{Contains-from_filter}
use Rattle.gate_admit.specs.Coins.{view_coin}
use Rattle.gate_admit.specs.Policies.{Policy}
use Rattle.gate_admit.specs.Good.{IsSound, IsLimited}
use Rattle.gate_admit.proofs.Coining.{coin_stays}
use Rattle.gate_admit.proofs.Filtering.{length_ones, sum_by-fewer, All-flat_map, All-flat_map_at, AllPairs-flat_map_filter}
use Rattle.gate_admit.proofs.Granted.{Differ}
use Rattle.gate_admit.proofs.Staying.{is_below, below_some_closed}

-- entries of different ids
abbrev pub DifferByTxid : Admitted → Admitted → Type 0
DifferByTxid a b = txid_of a.tx ≢ txid_of b.tx

abbrev pub DifferByWtxid : Admitted → Admitted → Type 0
DifferByWtxid a b = wtxid_of a.tx ≢ wtxid_of b.tx

-- ---- steps of a part

-- a part has no step that the whole lacks
pub steps_within : (part whole : List Admitted) → ((a : Admitted) → Contains part a → Contains whole a) → (a b : Id) → Contains (steps part) (a, b) → Contains (steps whole) (a, b)
steps_within part whole within a b s =
    let w = step_entry part a b s in
    subst (λ z. Contains (steps whole) (z, b)) w.parent
    (subst (λ z. Contains (steps whole) (w.point.prevout.txid, z)) w.child (entry_step whole w.entry w.point (within w.entry w.member) w.spent))

-- in a part no more is reached
pub reaches_within : (part whole : List Admitted) → ((a : Admitted) → Contains part a → Contains whole a) → (a b : Id) → reaches (steps part) a b ≡ true → reaches (steps whole) a b ≡ true
reaches_within part whole within a b r = reaches_from_Leads (Leads_more (steps_within part whole within) (Leads_from_reaches (steps part) a b r))

-- ---- limits of a part

module _ (k : Admitted → Bool) (entries : List Admitted) (txid : Id) (f : Admitted → ℕ) where
  pub fewer_above : sum_by f (ancestors_of (filter k entries) txid) ≤ sum_by f (ancestors_of entries txid)
  fewer_above =
      sum_by-fewer f (λ (a : Admitted). reaches (steps (filter k entries)) (txid_of a.tx) txid) k (λ (a : Admitted). reaches (steps entries) (txid_of a.tx) txid) entries
      (λ a m r. reaches_within (filter k entries) entries (Contains-from_filter k entries) (txid_of a.tx) txid r)

  pub fewer_below : sum_by f (descendants_of (filter k entries) txid) ≤ sum_by f (descendants_of entries txid)
  fewer_below =
      sum_by-fewer f (λ (a : Admitted). reaches (steps (filter k entries)) txid (txid_of a.tx)) k (λ (a : Admitted). reaches (steps entries) txid (txid_of a.tx)) entries
      (λ a m r. reaches_within (filter k entries) entries (Contains-from_filter k entries) txid (txid_of a.tx) r)

-- families are within their limits in any part
pub limited_part : (policy : Policy) (k : Admitted → Bool) (entries : List Admitted) (txid : Id) → IsLimited policy entries txid → IsLimited policy (filter k entries) txid
limited_part policy k entries txid h =
    let one : Admitted → ℕ = λ a. 1 in
    let size : Admitted → ℕ = λ a. a.vsize in
    record {
      ancestors = omega (arith, h.ancestors, fewer_above k entries txid one, length_ones (ancestors_of (filter k entries) txid), length_ones (ancestors_of entries txid));
      ancestors_size = omega (arith, h.ancestors_size, fewer_above k entries txid size);
      descendants = omega (arith, h.descendants, fewer_below k entries txid one, length_ones (descendants_of (filter k entries) txid), length_ones (descendants_of entries txid));
      descendants_size = λ narrow. omega (arith, h.descendants_size narrow, fewer_below k entries txid size);
    }

-- ---- coins of a part

-- what holds of each outpoint that is spent holds of each entry's
pub spent_at : (P : OutPoint → Type 0) (entries : List Admitted) (a : Admitted) (i : TxIn) → All P (spent_by entries) → Contains entries a → Contains a.tx.inputs i → P i.prevout
spent_at P entries a i h m c =
    All-contains P (spends_of a.tx) i.prevout (All-flat_map_at (λ (e : Admitted). spends_of e.tx) P entries a h m) (Contains-map (λ (j : TxIn). j.prevout) a.tx.inputs i c)

module _ (chain : History) (D : Id → Bool) (entries : List Admitted) (closed : (a b : Id) → Contains (steps entries) (a, b) → D a ≡ true → D b ≡ true) where
  within : (e : Admitted) → Contains (kept D entries) e → Contains entries e
  within e m = Contains-from_filter (λ (a : Admitted). not (D (txid_of a.tx))) entries e m

  stays : (e : Admitted) → Contains (kept D entries) e → D (txid_of e.tx) ≡ false
  stays e m = not-true _ (All-contains (λ (a : Admitted). not (D (txid_of a.tx)) ≡ true) (kept D entries) e (filter_passes (λ (a : Admitted). not (D (txid_of a.tx))) entries) m)

  -- what an entry that stays spends is of none that goes
  input_beside : (e : Admitted) (i : TxIn) → Contains (kept D entries) e → Contains e.tx.inputs i → D i.prevout.txid ≡ false
  input_beside e i m c = false_from_ne_true _ (λ t. true≢false (sym (closed i.prevout.txid (txid_of e.tx) (entry_step entries e i (within e m) c) t) ∙ stays e m))

  coins_stay : All (λ (p : OutPoint). IsSome (view_coin chain entries p)) (spent_by entries) → All (λ (p : OutPoint). IsSome (view_coin chain (kept D entries) p)) (spent_by (kept D entries))
  coins_stay h =
      All-flat_map (λ (e : Admitted). spends_of e.tx) (λ (p : OutPoint). IsSome (view_coin chain (kept D entries) p)) (kept D entries)
      (λ e m k d l.
      let w = Contains-from_map (λ (i : TxIn). i.prevout) e.tx.inputs (get_or (spends_of e.tx) k d) (Contains-get_or (spends_of e.tx) k d l) in
      subst (λ (p : OutPoint). IsSome (view_coin chain (kept D entries) p)) w.is
      (coin_stays chain D entries w.item.prevout (input_beside e w.item m w.among)
      (spent_at (λ (p : OutPoint). IsSome (view_coin chain entries p)) entries e w.item h (within e m) w.among)))

  -- ---- the entries

  -- ids go, with all that is below them
  pub kept_sound : (policy : Policy) → IsSound policy chain entries → IsSound policy chain (kept D entries)
  kept_sound policy h =
      let k : Admitted → Bool = λ a. not (D (txid_of a.tx)) in
      record {
        bounds = h.bounds;
        txids = AllPairs-filter DifferByTxid k entries h.txids;
        wtxids = AllPairs-filter DifferByWtxid k entries h.wtxids;
        spends = AllPairs-flat_map_filter (λ (e : Admitted). spends_of e.tx) Differ k entries h.spends;
        coins = coins_stay h.coins;
        fresh = All-filter k (λ (e : Admitted). is_known_txid chain (txid_of e.tx) ≡ false) entries h.fresh;
        light = All-filter k (λ (e : Admitted). e.vsize ≤ 100000) entries h.light;
        limited = All-weaker (λ (e : Admitted). IsLimited policy entries (txid_of e.tx)) (λ (e : Admitted). IsLimited policy (kept D entries) (txid_of e.tx))
            (λ e. limited_part policy k entries (txid_of e.tx)) (kept D entries) (All-filter k (λ (e : Admitted). IsLimited policy entries (txid_of e.tx)) entries h.limited);
      }

-- entries that pass a test go, with all that is below
pub below_sound : (policy : Policy) (chain : History) (test : Admitted → Bool) (entries : List Admitted) → IsSound policy chain entries → IsSound policy chain (without_below test entries)
below_sound policy chain test entries h = kept_sound chain (is_below test entries) entries (below_some_closed test entries) policy h

-- an id goes, with all that is below it
pub family_sound : (policy : Policy) (chain : History) (entries : List Admitted) (txid : Id) → IsSound policy chain entries → IsSound policy chain (without_family entries txid)
family_sound policy chain entries txid h = kept_sound chain (reaches (steps entries) txid) entries (below_closed entries txid) policy h
