-- What the members of a package keep of what holds of all of them, and what those that are judged together pass.
use Rattle.std.proofs.Common.{◌≡◌, ◌≢◌, ◌≤◌, ◌+◌, ◌*◌, ℕ, Bool, true, false, cond, ◌||◌, List, [], ◌∷◌, length, None, refl, sym, ◌∙◌, subst, ⊎_elim}
use Rattle.std.specs.Prelude.{◌==◌, Contains}
use Rattle.std.specs.List.{list_any}
use Rattle.std.specs.Str.{bytes_eq}
use Rattle.std.proofs.lemmas.Bool.{or_parts, ltb-false, true≢false, false_from_ne_true}
use Rattle.std.proofs.lemmas.List.Elements.{All-contains}
use Rattle.gate_bytes.specs.Order.{first_failing, NoneFails}
use Rattle.gate_bytes.proofs.Members.{Contains-cons_cases, Contains-head, Contains-rest, not_in_none, any_is, list_any_of}
use Rattle.gate_bytes.proofs.OrderLemmas.{none_fails-append, none_fails}
use Rattle.gate_tx.specs.Ids.{txid_of, wtxid_of}
use Rattle.gate_tx.specs.Sizes.{weight_of}
use Rattle.gate_tx.specs.Tx.{Tx}
use Rattle.gate_submission.specs.Alone.{alone_rules}
use Rattle.gate_submission.specs.declared.Member.{Member}
use Rattle.gate_chain.specs.Times.{tip_of}
use Rattle.gate_pool.specs.Pool.{entry_by_txid, entry_by_wtxid}
use Rattle.gate_admit.specs.Policies.{IsPolicy}
use Rattle.gate_admit.specs.Reports.{reported, report_rules, sigop_cost}
use Rattle.gate_admit.specs.Rules.{balance_rules, coin_value_rules, coins_value, final_rules, lock_rules, outputs_value, pool_rules}
use Rattle.gate_admit.specs.Standing.{Standing}
use Rattle.gate_admit.proofs.Granted.{hundred, ids_differ, none_found, sized}
use Rattle.gate_admit.proofs.Lists.{none_pass}
use Rattle.gate_admit.proofs.Weighing.{counted}
use Rattle.gate_package.specs.declared.role.Role.{Role}
use Rattle.gate_package.specs.declared.role.Role.TheVariants.{Member as AsMember, Together, Listed}
use Rattle.gate_package.specs.Coins.{coins_beside, coin_rules_beside}
use Rattle.gate_package.specs.Judging.{fee_beside, half_rules, pool_rules_as, vsize_beside}
use Rattle.gate_package.specs.Packages.{denied_of, is_denied}
use Rattle.gate_package.specs.Shapes.{has_conflict, has_duplicates, has_same_id, shares_input}

-- ---- two members differ

-- two transactions have different ids, and the second spends nothing that the first spends
pub record Differ (tx other : Tx) : Type 0 where
  pub txid : txid_of tx ≢ txid_of other
  pub wtxid : wtxid_of tx ≢ wtxid_of other
  pub apart : shares_input tx.inputs other ≡ false

-- each differs from those behind it
abbrev pub AllDiffer : List Tx → Type 0
AllDiffer [] = Unit {0}
AllDiffer (tx ∷ txs) = ((other : Tx) → Contains txs other → Differ tx other) × AllDiffer txs

none_at : (p : Tx → Bool) (txs : List Tx) (tx : Tx) → list_any p txs ≡ false → Contains txs tx → p tx ≡ false
none_at p txs tx h m = All-contains (λ (t : Tx). p t ≡ false) txs tx (none_pass p txs h) m

pub all_differ : (txs : List Tx) → has_duplicates txs ≡ false → has_conflict txs ≡ false → AllDiffer txs
all_differ [] distinct apart = tt
all_differ (tx ∷ txs) distinct apart =
    let ids = or_parts (list_any (has_same_id tx) txs) (has_duplicates txs) distinct in
    let inputs = or_parts (length tx.inputs == 0) (list_any (shares_input tx.inputs) txs || has_conflict txs) apart in
    let others = or_parts (list_any (shares_input tx.inputs) txs) (has_conflict txs) inputs.1 in (
      λ other m.
          let same = or_parts (bytes_eq (txid_of other) (txid_of tx)) (bytes_eq (wtxid_of other) (wtxid_of tx)) (none_at (has_same_id tx) txs other ids.0 m) in
          record {
            txid = λ e. ids_differ (txid_of other) (txid_of tx) same.0 (sym e);
            wtxid = λ e. ids_differ (wtxid_of other) (wtxid_of tx) same.1 (sym e);
            apart = none_at (shares_input tx.inputs) txs other others.0 m;
          },
      all_differ txs ids.1 others.1,
    )

-- ---- some of the members

-- those that are denied are members
pub denied_within : (txs : List Tx) (members : List Member) (tx : Tx) → Contains (denied_of txs members) tx → Contains txs tx
denied_within [] members tx m = not_in_none tx m
denied_within (first ∷ txs) [] tx m = not_in_none tx m
denied_within (first ∷ txs) (one ∷ members) tx m = by (is_denied one) (denied_within txs members tx) m
  where
    by : (b : Bool) → (Contains (denied_of txs members) tx → Contains txs tx) → Contains (cond b (first ∷ denied_of txs members) (denied_of txs members)) tx → Contains (first ∷ txs) tx
    by true rest k =
        ⊎_elim (λ (e : first ≡ tx). subst (λ (t : Tx). Contains (first ∷ txs) t) e (Contains-head first txs))
        (λ (c : Contains (denied_of txs members) tx). Contains-rest first txs tx (rest c)) (Contains-cons_cases first (denied_of txs members) tx k)
    by false rest k = Contains-rest first txs tx (rest k)

none_denied : (p : Tx → Bool) (txs : List Tx) (members : List Member) → list_any p txs ≡ false → list_any p (denied_of txs members) ≡ false
none_denied p txs members h = false_from_ne_true _ (λ t.
    let w = any_is p (denied_of txs members) t in
    true≢false (sym (list_any_of p txs w.0 (denied_within txs members w.0 w.1) w.2) ∙ h))

pub neither : (a b : Bool) → a ≡ false → b ≡ false → (a || b) ≡ false
neither true b h k = h
neither false b h k = k

pub denied_distinct : (txs : List Tx) (members : List Member) → has_duplicates txs ≡ false → has_duplicates (denied_of txs members) ≡ false
denied_distinct [] members h = refl
denied_distinct (tx ∷ txs) [] h = refl
denied_distinct (tx ∷ txs) (one ∷ members) h =
    let parts = or_parts (list_any (has_same_id tx) txs) (has_duplicates txs) h in
    by (is_denied one) (none_denied (has_same_id tx) txs members parts.0) (denied_distinct txs members parts.1)
  where
    by : (b : Bool) → list_any (has_same_id tx) (denied_of txs members) ≡ false → has_duplicates (denied_of txs members) ≡ false
        → has_duplicates (cond b (tx ∷ denied_of txs members) (denied_of txs members)) ≡ false
    by true own rest = neither (list_any (has_same_id tx) (denied_of txs members)) (has_duplicates (denied_of txs members)) own rest
    by false own rest = rest

pub denied_apart : (txs : List Tx) (members : List Member) → has_conflict txs ≡ false → has_conflict (denied_of txs members) ≡ false
denied_apart [] members h = refl
denied_apart (tx ∷ txs) [] h = refl
denied_apart (tx ∷ txs) (one ∷ members) h =
    let some = or_parts (length tx.inputs == 0) (list_any (shares_input tx.inputs) txs || has_conflict txs) h in
    let parts = or_parts (list_any (shares_input tx.inputs) txs) (has_conflict txs) some.1 in
    by (is_denied one) some.0 (none_denied (shares_input tx.inputs) txs members parts.0) (denied_apart txs members parts.1)
  where
    by : (b : Bool) → (length tx.inputs == 0) ≡ false → list_any (shares_input tx.inputs) (denied_of txs members) ≡ false → has_conflict (denied_of txs members) ≡ false
        → has_conflict (cond b (tx ∷ denied_of txs members) (denied_of txs members)) ≡ false
    by true none own rest =
        neither (length tx.inputs == 0) (list_any (shares_input tx.inputs) (denied_of txs members) || has_conflict (denied_of txs members)) none
        (neither (list_any (shares_input tx.inputs) (denied_of txs members)) (has_conflict (denied_of txs members)) own rest)
    by false none own rest = rest

-- ---- the first half of the order

-- what a transaction passes behind these others, as far as its entry asks it
pub record Half (before : List Tx) (over : Standing) (tx : Tx) : Type 0 where
  pub alone : NoneFails (alone_rules over.policy.standards tx)
  pub pool : NoneFails (pool_rules over.policy over.entries tx)
  pub coin : NoneFails (coin_rules_beside over.chain before over.entries tx)
  pub report : NoneFails (report_rules over.policy (reported tx.inputs (coins_beside over.chain before over.entries tx.inputs)) (fee_beside before over tx) tx)

-- whatever its role, it passes the rules on the pool
pool_passes : (role : Role) (over : Standing) (tx : Tx) → NoneFails (pool_rules_as role over.policy over.entries tx) → NoneFails (pool_rules over.policy over.entries tx)
unfolding pool_rules_as
pool_passes AsMember over tx p = p
pool_passes Together over tx p = p
pool_passes Listed over tx p = (none_fails-append (pool_rules over.policy over.entries tx) _ p).0

pub half_passes : (role : Role) (max_rate : ℕ) (before : List Tx) (over : Standing) (tx : Tx) → first_failing (half_rules role max_rate before over tx) ≡ None → Half before over tx
unfolding half_rules
half_passes role max_rate before over tx h =
    let coins = coins_beside over.chain before over.entries tx.inputs in
    let fee = fee_beside before over tx in
    let alone = none_fails-append (alone_rules over.policy.standards tx) _ (none_fails _ h) in
    let final = none_fails-append (final_rules over.chain tx) _ alone.1 in
    let pool = none_fails-append (pool_rules_as role over.policy over.entries tx) _ final.1 in
    let coin = none_fails-append (coin_rules_beside over.chain before over.entries tx) _ pool.1 in
    let lock = none_fails-append (lock_rules over.chain coins tx) _ coin.1 in
    let value = none_fails-append (coin_value_rules (tip_of over.chain + 1) 0 coins) _ lock.1 in
    let balance = none_fails-append (balance_rules (coins_value coins) (outputs_value tx)) _ value.1 in
    let report = none_fails-append (report_rules over.policy (reported tx.inputs coins) fee tx) _ balance.1 in
    record { alone = alone.0; pool = pool_passes role over tx pool.0; coin = coin.0; report = report.0 }

-- no entry has one of its ids
pub half_absent : (before : List Tx) (over : Standing) (tx : Tx) → Half before over tx → (entry_by_txid over.entries (txid_of tx) ≡ None) × (entry_by_wtxid over.entries (wtxid_of tx) ≡ None)
unfolding pool_rules
half_absent before over tx p = (none_found (entry_by_txid over.entries (txid_of tx)) p.pool.1.0, none_found (entry_by_wtxid over.entries (wtxid_of tx)) p.pool.0)

-- it is no larger than what is standard
pub half_small : (before : List Tx) (over : Standing) (tx : Tx) → IsPolicy over.policy → Half before over tx → vsize_beside before over tx ≤ 100000
unfolding report_rules
half_small before over tx bounds p =
    let cost = sigop_cost (reported tx.inputs (coins_beside over.chain before over.entries tx.inputs)) tx.outputs in
    hundred (weight_of tx) (over.policy.sigop_size * cost) (sized over.policy.standards tx p.alone).1 (counted over.policy.sigop_size cost bounds.sigop_size_most (ltb-false _ _ p.report.1.1.1.0))
