-- What holds of the pool after any chain event, whatever the blocks are: no outpoint is spent twice, and the budget is kept.
use Rattle.std.proofs.Common.{◌≡◌, ◌≤◌, ℕ, Bool, true, false, cond, not, List, [], ◌∷◌, Option, Some, Result, Ok, Err, refl, sym, subst, arith}
use Rattle.std.specs.Prelude.{◌==◌, filter}
use Rattle.std.specs.List.{AllPairs}
use Rattle.gate_graph.specs.Family.{reaches}
use Rattle.gate_tx.specs.Ids.{txid_of}
use Rattle.gate_tx.specs.Tx.{Tx}
use Rattle.gate_rules.specs.declared.Denial.{Denial}
use Rattle.gate_block.specs.Switching.{last_blocks}
use Rattle.gate_pool.specs.Pool.{Admitted, has_txid, spends_of, spent_by, size_of}
use Rattle.gate_pool.specs.Counting.{is_counted, entered_beside}
use Rattle.gate_pool.specs.Family.{steps, is_below_some, is_conflict, names, without_below, entered}
use Rattle.gate_trim.specs.Expiry.{expired, is_stale}
use Rattle.gate_trim.proofs.Trimmings.{trim_keeps, trim_within}
use Rattle.gate_admit.specs.declared.Attempt.TheVariants.{Again}
use Rattle.gate_admit.specs.declared.Grant.{Grant}
use Rattle.gate_admit.specs.Granting.{IsGrantable}
use Rattle.gate_admit.specs.Rules.{decision_of}
use Rattle.gate_admit.specs.Standing.{Standing}
use Rattle.gate_admit.specs.Submission.{admitted}
use Rattle.gate_admit.proofs.Filtering.{AllPairs-flat_map_filter}
use Rattle.gate_admit.proofs.Granted.{Differ, decided_live, unspent_beside}
use Rattle.gate_admit.proofs.Lists.{AllPairs-append}
use Rattle.gate_reorg.specs.Events.{terms_after, event_of}
use Rattle.gate_reorg.specs.Goodness.{EventsKeepTheBudget, EventsSpendOnce}
use Rattle.gate_reorg.specs.Reorganisation.{Terms, standing_again, without_txid, confirmed, all_confirmed, unconfirmed, tried, tried_again, all_tried_again, brought_back, is_premature, without_premature, returned, pool_after}
use Rattle.gate_submission.specs.Blocks.{transactions_of}
use Rattle.gate_reorg.proofs.Leaving.{all_confirmed_leaves}
use Rattle.gate_reorg.proofs.Trying.{spent_by-push}

-- ---- no outpoint is spent twice

abbrev pub SpendOnce : List Admitted → Type 0
SpendOnce entries = AllPairs Differ (spent_by entries)

pub part_once : (k : Admitted → Bool) (entries : List Admitted) → SpendOnce entries → SpendOnce (filter k entries)
part_once k entries h = AllPairs-flat_map_filter (λ (e : Admitted). spends_of e.tx) Differ k entries h

pub below_once : (test : Admitted → Bool) (entries : List Admitted) → SpendOnce entries → SpendOnce (without_below test entries)
below_once test entries h = part_once (λ (e : Admitted). not (is_below_some test entries e)) entries h

-- a granted transaction spends nothing that an entry which stays does
pub entered_once : (over : Standing) (tx : Tx) (grant : Grant) (now : ℕ) → IsGrantable over tx → SpendOnce over.entries → SpendOnce (entered over.entries (admitted tx grant now))
entered_once over tx grant now k h =
    subst (AllPairs Differ) (sym (spent_by-push (without_below (is_conflict tx) over.entries) (admitted tx grant now)))
    (AllPairs-append Differ (spent_by (without_below (is_conflict tx) over.entries)) (spends_of tx) (below_once (is_conflict tx) over.entries h) k.single k.unspent)

-- nor does one that enters in place of a sibling
pub beside_once : (over : Standing) (sibling : Option (List ℕ)) (tx : Tx) (grant : Grant) (now : ℕ) → IsGrantable over tx → SpendOnce over.entries → SpendOnce (entered_beside over.entries sibling (admitted tx grant now))
beside_once over sibling tx grant now k h =
    subst (AllPairs Differ) (sym (spent_by-push (without_below (is_counted sibling tx) over.entries) (admitted tx grant now)))
    (AllPairs-append Differ (spent_by (without_below (is_counted sibling tx) over.entries)) (spends_of tx) (below_once (is_counted sibling tx) over.entries h) k.single (unspent_beside sibling tx over.entries))

confirmed_once : (entries : List Admitted) (t : Tx) → SpendOnce entries → SpendOnce (confirmed entries t)
unfolding confirmed
confirmed_once entries t h = below_once (is_conflict t) (without_txid entries (txid_of t)) (part_once (λ (e : Admitted). not (has_txid e (txid_of t))) entries h)

all_confirmed_once : (entries : List Admitted) (txs : List Tx) → SpendOnce entries → SpendOnce (all_confirmed entries txs)
all_confirmed_once entries [] h = h
all_confirmed_once entries (t ∷ txs) h = all_confirmed_once (confirmed entries t) txs (confirmed_once entries t h)

module _ (under : Terms) where
  tried_once : (entries : List Admitted) (t : Tx) → SpendOnce entries → SpendOnce (tried_again under entries t)
  unfolding tried_again
  tried_once entries t h = go (decision_of Again (standing_again under entries) (Some t)) refl
    where
      go : (d : Result Grant Denial) → decision_of Again (standing_again under entries) (Some t) ≡ d → SpendOnce (tried entries t under.second d)
      go (Ok grant) e = entered_once (standing_again under entries) t grant under.second (decided_live Again (standing_again under entries) t grant e) h
      go (Err denial) e = below_once (λ (a : Admitted). names a (txid_of t)) entries h

  all_tried_once : (entries : List Admitted) (ts : List Tx) → SpendOnce entries → SpendOnce (all_tried_again under entries ts)
  all_tried_once entries [] h = h
  all_tried_once entries (t ∷ ts) h = all_tried_once (tried_again under entries t) ts (tried_once entries t h)

  returned_once : (entries : List Admitted) (floor : ℕ) (new old : List Tx) → SpendOnce entries → SpendOnce (returned under entries floor new old).entries
  unfolding returned
  returned_once entries floor new old h =
      let tried = brought_back under entries new old in
      let ripe = without_premature under.chain tried in
      trim_keeps SpendOnce (λ l txid. part_once (λ (e : Admitted). not (reaches (steps l) txid (txid_of e.tx))) l) under.policy.incremental_rate under.budget (expired under.policy.stay under.second ripe) floor
      (below_once (is_stale under.policy.stay under.second) ripe
      (below_once (λ (e : Admitted). is_premature under.chain tried e.tx) tried (all_tried_once (all_confirmed entries new) (unconfirmed new old) (all_confirmed_once entries new h))))

  after_once : (depth : ℕ) (entries : List Admitted) (floor : ℕ) (new old : List Tx) → SpendOnce entries → SpendOnce (pool_after depth under entries floor new old).entries
  unfolding pool_after
  after_once depth entries floor new old h = go (depth == 0)
    where
      go : (b : Bool) → SpendOnce (cond b (record { entries = all_confirmed entries new; floor = floor }) (returned under entries floor new old)).entries
      go true = all_confirmed_once entries new h
      go false = returned_once entries floor new old h

pub events_spend_once : EventsSpendOnce
unfolding event_of
events_spend_once over depth blocks now budget h =
    after_once (terms_after over depth blocks now budget) depth over.entries over.floor (transactions_of blocks) (transactions_of (last_blocks over.chain depth)) h

-- ---- the budget

returned_size : (under : Terms) (entries : List Admitted) (floor : ℕ) (new old : List Tx) → size_of (returned under entries floor new old).entries ≤ under.budget
unfolding returned
returned_size under entries floor new old =
    trim_within under.policy.incremental_rate under.budget (expired under.policy.stay under.second (without_premature under.chain (brought_back under entries new old))) floor

after_size : (depth : ℕ) (under : Terms) (entries : List Admitted) (floor : ℕ) (new old : List Tx) → size_of entries ≤ under.budget → size_of (pool_after depth under entries floor new old).entries ≤ under.budget
unfolding pool_after
after_size depth under entries floor new old h = go (depth == 0)
  where
    go : (b : Bool) → size_of (cond b (record { entries = all_confirmed entries new; floor = floor }) (returned under entries floor new old)).entries ≤ under.budget
    go true = omega (arith, h, (all_confirmed_leaves entries new).size)
    go false = returned_size under entries floor new old

pub events_keep_the_budget : EventsKeepTheBudget
unfolding event_of
events_keep_the_budget over depth blocks now budget h =
    after_size depth (terms_after over depth blocks now budget) over.entries over.floor (transactions_of blocks) (transactions_of (last_blocks over.chain depth)) h
