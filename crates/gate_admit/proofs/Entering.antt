-- A granted transaction that enters keeps entries sound over their chain.
use Rattle.std.proofs.Common.{◌≡◌, ◌≢◌, ◌≤◌, ◌||◌, ◌&&◌, ℕ, Bool, true, false, not, List, [], ◌∷◌, ◌++◌, get_or, Option, Some, None, refl, sym, ap, ◌∙◌, subst, append-nil, arith}
use Rattle.std.specs.Option.{option_to_list}
use Rattle.std.specs.Prelude.{Contains, IsSome, IfSome}
use Rattle.std.specs.List.{All, AllPairs, list_any}
use Rattle.std.proofs.lemmas.Bool.{true≢false, false_from_ne_true, and_parts}
use Rattle.std.proofs.lemmas.Grind.{flat_map-append}
use Rattle.std.proofs.lemmas.List.Elements.{All-nil, All-append, All-contains, All-filter, All-weaker, Contains-get_or}
use Rattle.gate_bytes.specs.Order.{first_failing, NoneFails}
use Rattle.gate_tx.specs.declared.OutPoint.{OutPoint}
use Rattle.gate_tx.specs.declared.TxIn.{TxIn}
use Rattle.gate_tx.specs.Ids.{txid_of, wtxid_of}
use Rattle.gate_tx.specs.Text.{IsTx}
use Rattle.gate_tx.specs.Tx.{Tx}
use Rattle.gate_chain.specs.Coins.{has_txid, has_transaction, is_known_txid, opened_with_of}
use Rattle.gate_chain.specs.History.{History}
use Rattle.gate_graph.specs.Family.{reaches}
use Rattle.gate_bytes.proofs.Members.{any_is, list_any_of}
use Rattle.gate_pool.specs.Pool.{Admitted, spends_of, spent_by}
use Rattle.gate_pool.specs.Counting.{is_sibling, is_counted, counted_of, entered_beside}
use Rattle.gate_pool.specs.Family.{steps, is_below_some, is_conflict, ancestors_above}
use Rattle.gate_pool.proofs.Entries.{Contains-map, Contains-from_map}
use Rattle.gate_pool.proofs.Walking.{Contains-filter}
use Rattle.gate_rbf.specs.Replacing.{adds_unconfirmed, sharers}
use Rattle.gate_admit.specs.declared.attempt.Attempt.TheVariants.{First}
use Rattle.gate_admit.specs.Coins.{view_coin}
use Rattle.gate_admit.specs.Good.{IsSound, IsLimited, IsSettled, IsUnconnected, AreApart, connected_transactions}
use Rattle.gate_admit.specs.Granting.{IsGrantable}
use Rattle.gate_admit.specs.Policies.{Policy, IsPolicy, incremental_feerate}
use Rattle.gate_admit.specs.Limits.{limit_rules}
use Rattle.gate_admit.specs.Rules.{admission_rules, grant_of}
use Rattle.gate_admit.specs.Standing.{Standing}
use Rattle.gate_admit.specs.Submission.{admitted}
use Rattle.gate_admit.specs.Truc.{TrucHolds, sibling_of}
use Rattle.gate_admit.proofs.Childless.{IsChildless, left_by, left_within, above_new}
use Rattle.gate_admit.proofs.Coining.{coin_elsewhere, coin_stays, coin_beside}
use Rattle.gate_admit.proofs.Evicting.{evicted_room, no_ancestor}
use Rattle.gate_admit.proofs.Granted.{Differ, rules_grant, small, unspent_beside}
use Rattle.gate_admit.proofs.Limited.{limited_new, limited_old}
use Rattle.gate_admit.proofs.Lists.{AllPairs-nil, AllPairs-one, AllPairs-append, All-one}
use Rattle.gate_admit.proofs.Passing.{Passes, passes}
use Rattle.gate_admit.proofs.Removing.{DifferByTxid, DifferByWtxid, below_sound, spent_at}
use Rattle.gate_admit.proofs.Replacing.{beside_conflict}
use Rattle.gate_admit.proofs.Rooms.{HasRoomBeside, no_parent_added, room_above, room_at}
use Rattle.gate_admit.proofs.SmallFamilies.{entered_small, keeps_truc}
use Rattle.gate_admit.proofs.Staying.{is_below}
use Rattle.gate_admit.proofs.Unconnected.{unconnected}

pub spent_by-push : (entries : List Admitted) (e : Admitted) → spent_by (entries ++ e ∷ []) ≡ spent_by entries ++ spends_of e.tx
spent_by-push entries e = flat_map-append (λ (e : Admitted). spends_of e.tx) entries (e ∷ []) ∙ ap (λ l. spent_by entries ++ l) (append-nil (spends_of e.tx))

pub neither : (a b : Bool) → a ≡ false → b ≡ false → (a || b) ≡ false
neither a b h k = rw (h, k) refl

pub unknown : (chain : History) (txid : List ℕ) → opened_with_of chain txid ≡ false → list_any (has_transaction txid) chain.blocks ≡ false → is_known_txid chain txid ≡ false
unfolding opened_with_of is_known_txid
unknown chain txid h k = neither (has_txid txid chain.coins) (list_any (has_transaction txid) chain.blocks) h k

-- ---- what enters has no children, and its coins stay

-- what enters is new, spends no outpoint twice, and has a coin at each
pub record MayEnter (over : Standing) (tx : Tx) : Type 0 where
  pub txid : All (λ (e : Admitted). txid_of e.tx ≢ txid_of tx) over.entries
  pub wtxid : All (λ (e : Admitted). wtxid_of e.tx ≢ wtxid_of tx) over.entries
  pub single : AllPairs (λ (p : OutPoint) (q : OutPoint). p ≢ q) (spends_of tx)
  pub coins : All (λ (p : OutPoint). IsSome (view_coin over.chain over.entries p)) (spends_of tx)

may_enter : (over : Standing) (tx : Tx) → IsGrantable over tx → MayEnter over tx
may_enter over tx k = record { txid = k.txid; wtxid = k.wtxid; single = k.single; coins = k.coins }

module _ (over : Standing) (sibling : Option (List ℕ)) (e : Admitted) (good : IsSound over.policy over.chain over.entries) (k : MayEnter over e.tx) (fresh : is_known_txid over.chain (txid_of e.tx) ≡ false)
    (beside : All (λ (a : Admitted). is_counted sibling e.tx a ≡ false) (ancestors_above over.entries e.tx.inputs)) where
  new : (a : Admitted) → Contains over.entries a → txid_of a.tx ≢ txid_of e.tx
  new a m = All-contains (λ (x : Admitted). txid_of x.tx ≢ txid_of e.tx) over.entries a k.txid m

  elsewhere : (p : OutPoint) → IsSome (view_coin over.chain over.entries p) → p.txid ≢ txid_of e.tx
  elsewhere p h = coin_elsewhere over.chain over.entries (txid_of e.tx) new fresh p h

  own_coin : (i : TxIn) → Contains e.tx.inputs i → IsSome (view_coin over.chain over.entries i.prevout)
  own_coin i c = All-contains (λ (p : OutPoint). IsSome (view_coin over.chain over.entries p)) (spends_of e.tx) i.prevout k.coins (Contains-map (λ (j : TxIn). j.prevout) e.tx.inputs i c)

  -- an entry that named it would have its coin from a transaction of its txid
  pub childless_grant : IsChildless over.entries e
  childless_grant = record {
    new = new;
    unnamed = λ a m i c. elsewhere i.prevout (spent_at (λ (p : OutPoint). IsSome (view_coin over.chain over.entries p)) over.entries a i good.coins m c);
    own = λ i c. elsewhere i.prevout (own_coin i c);
  }

  -- what it spends is below nothing that counts as a conflict (A37)
  own_beside : (i : TxIn) → Contains e.tx.inputs i → is_below (is_counted sibling e.tx) over.entries i.prevout.txid ≡ false
  own_beside i c = false_from_ne_true _ (λ t.
      let w = any_is (λ (a : Admitted). is_counted sibling e.tx a && reaches (steps over.entries) (txid_of a.tx) i.prevout.txid) over.entries t in
      let p = and_parts _ _ w.2 in
      let above : Contains (ancestors_above over.entries e.tx.inputs) w.0 =
      Contains-filter (λ (a : Admitted). list_any (λ (j : TxIn). reaches (steps over.entries) (txid_of a.tx) j.prevout.txid) e.tx.inputs) over.entries w.0 w.1
      (list_any_of (λ (j : TxIn). reaches (steps over.entries) (txid_of w.0.tx) j.prevout.txid) e.tx.inputs i c p.1) in
      true≢false (sym p.0 ∙ All-contains (λ (a : Admitted). is_counted sibling e.tx a ≡ false) (ancestors_above over.entries e.tx.inputs) w.0 beside above))

  -- a coin beside what goes
  coin_after : (p : OutPoint) → IsSome (view_coin over.chain (left_by over.entries sibling e) p) → p.txid ≢ txid_of e.tx → IsSome (view_coin over.chain (entered_beside over.entries sibling e) p)
  coin_after p h apart = coin_beside over.chain (left_by over.entries sibling e) e p apart h

  old_coins : All (λ (p : OutPoint). IsSome (view_coin over.chain (left_by over.entries sibling e) p)) (spent_by (left_by over.entries sibling e)) → All (λ (p : OutPoint). IsSome (view_coin over.chain (entered_beside over.entries sibling e) p)) (spent_by (left_by over.entries sibling e))
  old_coins h =
      All-weaker (λ (p : OutPoint). IsSome (view_coin over.chain (left_by over.entries sibling e) p)) (λ (p : OutPoint). IsSome (view_coin over.chain (entered_beside over.entries sibling e) p))
      (λ p c. coin_after p c (coin_elsewhere over.chain (left_by over.entries sibling e) (txid_of e.tx) (λ a m. new a (left_within over.entries sibling e a m)) fresh p c)) (spent_by (left_by over.entries sibling e)) h

  new_coins : All (λ (p : OutPoint). IsSome (view_coin over.chain (entered_beside over.entries sibling e) p)) (spends_of e.tx)
  new_coins n d l =
      let w = Contains-from_map (λ (i : TxIn). i.prevout) e.tx.inputs (get_or (spends_of e.tx) n d) (Contains-get_or (spends_of e.tx) n d l) in
      subst (λ (p : OutPoint). IsSome (view_coin over.chain (entered_beside over.entries sibling e) p)) w.is
      (coin_after w.item.prevout (coin_stays over.chain (is_below (is_counted sibling e.tx) over.entries) over.entries w.item.prevout (own_beside w.item w.among) (own_coin w.item w.among)) (elsewhere w.item.prevout (own_coin w.item w.among)))

  -- ---- the pool

  -- no entry that stays spends what it spends
  unspent : All (λ (p : OutPoint). All (λ (q : OutPoint). p ≢ q) (spends_of e.tx)) (spent_by (left_by over.entries sibling e))
  unspent = unspent_beside sibling e.tx over.entries

  families : e.vsize ≤ 100000 → NoneFails (limit_rules First over.policy over.entries e.tx e.vsize) → (list_any (is_counted sibling e.tx) over.entries ≡ true → adds_unconfirmed over.policy.parents over.entries sibling e.tx ≡ false)
      → ((a : Admitted) → Contains (ancestors_above over.entries e.tx.inputs) a → HasRoomBeside over.policy over.entries sibling e a)
      → All (λ (a : Admitted). IsLimited over.policy (entered_beside over.entries sibling e) (txid_of a.tx)) (entered_beside over.entries sibling e)
  families small room parents evicted =
      All-append (λ (a : Admitted). IsLimited over.policy (entered_beside over.entries sibling e) (txid_of a.tx)) (left_by over.entries sibling e) (e ∷ [])
      (λ n d l.
      let a = get_or (left_by over.entries sibling e) n d in
      let m : Contains over.entries a = left_within over.entries sibling e a (Contains-get_or (left_by over.entries sibling e) n d l) in
      limited_old sibling childless_grant (txid_of a.tx) (new a m) (All-contains (λ (x : Admitted). IsLimited over.policy over.entries (txid_of x.tx)) over.entries a good.limited m)
      (λ r.
      let above : Contains (ancestors_above over.entries e.tx.inputs) a =
      Contains-filter (λ (x : Admitted). list_any (λ (i : TxIn). reaches (steps over.entries) (txid_of x.tx) i.prevout.txid) e.tx.inputs) over.entries a m (above_new sibling childless_grant a m r) in
      room_at over.policy over.entries sibling e room parents a above (λ narrow. evicted a above)))
      (All-one (λ (a : Admitted). IsLimited over.policy (entered_beside over.entries sibling e) (txid_of a.tx)) e (limited_new sibling (omega (arith, small, good.bounds.descendants_size)) childless_grant (room_above over.policy over.entries e good.bounds small room)))

  -- the entries after it entered, where all families are within their limits
  pub joined_sound : e.vsize ≤ 100000 → All (λ (a : Admitted). IsLimited over.policy (entered_beside over.entries sibling e) (txid_of a.tx)) (entered_beside over.entries sibling e)
      → IsSound over.policy over.chain (entered_beside over.entries sibling e)
  joined_sound small limited =
      let kept = left_by over.entries sibling e in
      let chain = over.chain in
      let stays : Admitted → Bool = λ a. not (is_below_some (is_counted sibling e.tx) over.entries a) in
      let h : IsSound over.policy chain kept = below_sound over.policy chain (is_counted sibling e.tx) over.entries good in
      record {
        bounds = h.bounds;
        txids = AllPairs-append DifferByTxid kept (e ∷ []) h.txids (AllPairs-one DifferByTxid e)
            (λ n d l. All-one (λ (b : Admitted). txid_of (get_or kept n d).tx ≢ txid_of b.tx) e (All-filter stays (λ (a : Admitted). txid_of a.tx ≢ txid_of e.tx) over.entries k.txid n d l));
        wtxids = AllPairs-append DifferByWtxid kept (e ∷ []) h.wtxids (AllPairs-one DifferByWtxid e)
            (λ n d l. All-one (λ (b : Admitted). wtxid_of (get_or kept n d).tx ≢ wtxid_of b.tx) e (All-filter stays (λ (a : Admitted). wtxid_of a.tx ≢ wtxid_of e.tx) over.entries k.wtxid n d l));
        spends = subst (AllPairs Differ) (sym (spent_by-push kept e)) (AllPairs-append Differ (spent_by kept) (spends_of e.tx) h.spends k.single unspent);
        coins = subst (All (λ (p : OutPoint). IsSome (view_coin chain (entered_beside over.entries sibling e) p))) (sym (spent_by-push kept e))
            (All-append (λ (p : OutPoint). IsSome (view_coin chain (entered_beside over.entries sibling e) p)) (spent_by kept) (spends_of e.tx) (old_coins h.coins) new_coins);
        fresh = All-append (λ (a : Admitted). is_known_txid chain (txid_of a.tx) ≡ false) kept (e ∷ []) h.fresh (All-one (λ (a : Admitted). is_known_txid chain (txid_of a.tx) ≡ false) e fresh);
        light = All-append (λ (a : Admitted). a.vsize ≤ 100000) kept (e ∷ []) h.light (All-one (λ (a : Admitted). a.vsize ≤ 100000) e small);
        limited = limited;
      }

  granted_sound : e.vsize ≤ 100000 → NoneFails (limit_rules First over.policy over.entries e.tx e.vsize) → (list_any (is_counted sibling e.tx) over.entries ≡ true → adds_unconfirmed over.policy.parents over.entries sibling e.tx ≡ false)
      → ((a : Admitted) → Contains (ancestors_above over.entries e.tx.inputs) a → HasRoomBeside over.policy over.entries sibling e a)
      → IsSound over.policy over.chain (entered_beside over.entries sibling e)
  granted_sound small room parents evicted = joined_sound small (families small room parents evicted)

-- ---- submissions

room_granted : (over : Standing) (tx : Tx) → Passes First over tx → NoneFails (limit_rules First over.policy over.entries tx (grant_of First over tx).vsize)
unfolding grant_of
room_granted over tx p = p.limits

parents_granted : (over : Standing) (tx : Tx) → Passes First over tx → list_any (is_counted (sibling_of First over.policy over.entries tx) tx) over.entries ≡ true
    → adds_unconfirmed over.policy.parents over.entries (sibling_of First over.policy over.entries tx) tx ≡ false
parents_granted over tx p conflicts =
    no_parent_added (incremental_feerate over.policy) over.entries tx (counted_of over.entries (sibling_of First over.policy over.entries tx) tx) (sharers over.policy.parents over.entries (sibling_of First over.policy over.entries tx) tx) _
    (grant_of First over tx).fee (grant_of First over tx).vsize (beside_conflict First over tx p conflicts)

-- what is granted over sound entries is in no connected block
abbrev pub StaysUnconnected : Standing → Option Tx → Type 0
StaysUnconnected over None = Unit {0}
StaysUnconnected over (Some tx) =
    All (λ (e : Admitted). is_known_txid over.chain (txid_of e.tx) ≡ false) over.entries → first_failing (admission_rules First over tx) ≡ None → IsUnconnected over.chain (Some tx)

-- none of its ancestors counts as a conflict: no direct one by A37, and no sibling
beside_granted : (over : Standing) (tx : Tx) → IsGrantable over tx
    → All (λ (a : Admitted). is_counted (sibling_of First over.policy over.entries tx) tx a ≡ false) (ancestors_above over.entries tx.inputs)
beside_granted over tx k = λ n d l.
    let a = get_or (ancestors_above over.entries tx.inputs) n d in
    neither (is_sibling (sibling_of First over.policy over.entries tx) a) (is_conflict tx a) (no_ancestor over.policy over.entries tx a (Contains-get_or (ancestors_above over.entries tx.inputs) n d l)) (k.beside n d l)

entered_sound : (over : Standing) (tx : Tx) (now : ℕ) → (IsGrantable over tx × Passes First over tx × IsUnconnected over.chain (Some tx)) → IsSound over.policy over.chain over.entries
    → IsSound over.policy over.chain (entered_beside over.entries (sibling_of First over.policy over.entries tx) (admitted tx (grant_of First over tx) now))
entered_sound over tx now all h =
    let e = admitted tx (grant_of First over tx) now in
    granted_sound over (sibling_of First over.policy over.entries tx) e h (may_enter over tx all.0) (unknown over.chain (txid_of tx) all.0.fresh all.2) (beside_granted over tx all.0)
    (small First over tx h.bounds all.1) (room_granted over tx all.1) (parents_granted over tx all.1)
    (λ a m. evicted_room over.policy over.chain over.entries e h (room_granted over tx all.1) a m)

-- a granted transaction enters a sound list
pub grant_sound : (over : Standing) (tx : Tx) (now : ℕ) → StaysUnconnected over (Some tx) → IsSound over.policy over.chain over.entries → first_failing (admission_rules First over tx) ≡ None
    → IsSound over.policy over.chain (entered_beside over.entries (sibling_of First over.policy over.entries tx) (admitted tx (grant_of First over tx) now))
grant_sound over tx now new h granted = entered_sound over tx now (rules_grant First over tx granted, passes First over tx granted, new h.fresh granted) h

entered_truc : (over : Standing) (tx : Tx) (now : ℕ) → (IsGrantable over tx × Passes First over tx × IsUnconnected over.chain (Some tx)) → IsSound over.policy over.chain over.entries
    → over.policy.standards.truc ≡ true → TrucHolds over.entries → TrucHolds (entered_beside over.entries (sibling_of First over.policy over.entries tx) (admitted tx (grant_of First over tx) now))
entered_truc over tx now all h on kin =
    let e = admitted tx (grant_of First over tx) now in
    entered_small over.policy over.entries e h.txids
    (childless_grant over (sibling_of First over.policy over.entries tx) e h (may_enter over tx all.0) (unknown over.chain (txid_of tx) all.0.fresh all.2) (beside_granted over tx all.0)) kin on
    (keeps_truc over.policy over.entries tx (grant_of First over tx).vsize (room_granted over tx all.1))

-- where version 3 is standard, families of version 3 stay small
pub grant_truc : (over : Standing) (tx : Tx) (now : ℕ) → StaysUnconnected over (Some tx) → IsSound over.policy over.chain over.entries → first_failing (admission_rules First over tx) ≡ None
    → over.policy.standards.truc ≡ true → TrucHolds over.entries → TrucHolds (entered_beside over.entries (sibling_of First over.policy over.entries tx) (admitted tx (grant_of First over tx) now))
grant_truc over tx now new h granted = entered_truc over tx now (rules_grant First over tx granted, passes First over tx granted, new h.fresh granted) h

-- what is in no connected block
pub stays_if_unconnected : (over : Standing) (tx : Option Tx) → IsUnconnected over.chain tx → StaysUnconnected over tx
stays_if_unconnected over None new = tt
stays_if_unconnected over (Some tx) new = λ fresh h. new

-- where transactions are told apart by their ids
pub stays_if_apart : (over : Standing) (tx : Option Tx) → IsSettled over.chain → IfSome tx IsTx → AreApart (option_to_list tx ++ connected_transactions over.chain) → StaysUnconnected over tx
stays_if_apart over None settled is_tx apart = tt
stays_if_apart over (Some tx) settled is_tx apart = λ fresh. unconnected First over tx settled fresh is_tx apart

-- no entries are sound
pub empty_sound : (policy : Policy) (chain : History) → IsPolicy policy → IsSound policy chain []
empty_sound policy chain bounds =
    record {
      bounds = bounds;
      txids = AllPairs-nil DifferByTxid;
      wtxids = AllPairs-nil DifferByWtxid;
      spends = AllPairs-nil Differ;
      coins = All-nil (λ (p : OutPoint). IsSome (view_coin chain [] p));
      fresh = All-nil (λ (e : Admitted). is_known_txid chain (txid_of e.tx) ≡ false);
      light = All-nil (λ (e : Admitted). e.vsize ≤ 100000);
      limited = All-nil (λ (e : Admitted). IsLimited policy [] (txid_of e.tx));
    }
