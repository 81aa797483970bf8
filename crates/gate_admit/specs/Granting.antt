-- What a grant says of a transaction: its inputs are live, value is conserved, and a replacement pays for what it replaces.
use Rattle.std.specs.Prelude.{◌≡◌, ◌≢◌, ◌+◌, ◌≤◌, ◌<◌, ℕ, true, false, IsSome}
use Rattle.std.specs.List.{All, AllPairs}
use Rattle.gate_tx.specs.declared.Coin.{Coin}
use Rattle.gate_tx.specs.declared.OutPoint.{OutPoint}
use Rattle.gate_tx.specs.Ids.{txid_of, wtxid_of}
use Rattle.gate_tx.specs.Money.{max_money}
use Rattle.gate_tx.specs.Tx.{Tx}
use Rattle.gate_standard.specs.Amounts.{required_fee, feerate}
use Rattle.gate_chain.specs.Coins.{opened_with_of}
use Rattle.gate_chain.specs.Times.{tip_of}
use Rattle.gate_locks.specs.Finality.{is_final_at}
use Rattle.gate_locks.specs.Locks.{median_at, sequence_locks_met_by}
use Rattle.gate_pool.specs.Pool.{Admitted, spends_of, spent_by}
use Rattle.gate_pool.specs.Family.{names, is_conflict, conflicts_of, without_below, ancestors_above, fees_of}
use Rattle.gate_pool.specs.Counting.{is_counted, counted_of, replaced_beside}
use Rattle.gate_rbf.specs.Replacing.{is_replaceable}
use Rattle.gate_admit.specs.declared.attempt.Attempt.{Attempt}
use Rattle.gate_admit.specs.Truc.{sibling_of}
use Rattle.gate_admit.specs.declared.grant.Grant.{Grant}
use Rattle.gate_admit.specs.Coins.{view_coin, coins_of}
use Rattle.gate_admit.specs.Rules.{coins_value, heights_of, is_immature, outputs_value}
use Rattle.gate_admit.specs.Standing.{Standing}
use Rattle.gate_admit.specs.Policies.{incremental_feerate, feerate_by, relay_feerate}

pub record IsGrantable (over : Standing) (tx : Tx) : Type 0 where
  -- no entry has one of its ids
  pub txid : All (λ (e : Admitted). txid_of e.tx ≢ txid_of tx) over.entries
  pub wtxid : All (λ (e : Admitted). wtxid_of e.tx ≢ wtxid_of tx) over.entries
  -- each entry that spends an outpoint that it spends says that it may be replaced, unless all may be, and none of them is
  -- among its ancestors
  pub replaceable : over.policy.full_rbf ≡ false → All (λ (e : Admitted). is_replaceable over.policy.standards.truc e.tx ≡ true) (conflicts_of over.entries tx)
  pub beside : All (λ (e : Admitted). is_conflict tx e ≡ false) (ancestors_above over.entries tx.inputs)
  -- no entry that stays spends an outpoint that it spends, and it spends none twice
  pub unspent : All (λ (p : OutPoint). All (λ (q : OutPoint). p ≢ q) (spends_of tx)) (spent_by (without_below (is_conflict tx) over.entries))
  pub single : AllPairs (λ (p : OutPoint) (q : OutPoint). p ≢ q) (spends_of tx)
  -- each outpoint that it spends has a coin, no coin of a coinbase is too young, and its timelocks are met
  pub coins : All (λ (p : OutPoint). IsSome (view_coin over.chain over.entries p)) (spends_of tx)
  pub mature : All (λ (c : Coin). is_immature (tip_of over.chain + 1) c ≡ false) (coins_of over.chain over.entries tx.inputs)
  pub final : is_final_at tx (tip_of over.chain + 1) (median_at over.chain (tip_of over.chain)) ≡ true
  pub unlocked : sequence_locks_met_by tx (heights_of (coins_of over.chain over.entries tx.inputs)) over.chain ≡ true
  -- no coin that the chain was opened with came from a transaction of its txid
  pub fresh : opened_with_of over.chain (txid_of tx) ≡ false

-- the sum of its coins is that of its outputs and the fee, and the fee is an amount that there can be
pub record Conserves (over : Standing) (tx : Tx) (grant : Grant) : Type 0 where
  pub balanced : coins_value (coins_of over.chain over.entries tx.inputs) ≡ outputs_value tx + grant.fee
  pub money : grant.fee ≤ max_money

-- the fee pays for the size at the feerate that is asked of every transaction, and at the pool's floor
pub record PaysItsSize (over : Standing) (grant : Grant) : Type 0 where
  pub relay : required_fee (relay_feerate over.policy) grant.vsize ≤ grant.fee
  pub pool : required_fee (feerate_by over.policy over.floor) grant.vsize ≤ grant.fee

-- a replacement pays at least the fees of all that it replaces, and its own relay above that; its feerate, rounded down, is
-- above that of each entry that counts as a direct conflict; and no entry that stays spends an output of one that leaves
pub record Replaces (attempt : Attempt) (over : Standing) (tx : Tx) (grant : Grant) : Type 0 where
  pub paid : fees_of (replaced_beside over.entries (sibling_of attempt over.policy over.entries tx) tx) + required_fee (incremental_feerate over.policy) grant.vsize ≤ grant.fee
  pub rate : All (λ (c : Admitted). feerate c.fee c.vsize < feerate grant.fee grant.vsize) (counted_of over.entries (sibling_of attempt over.policy over.entries tx) tx)
  pub whole : All (λ (e : Admitted). All (λ (gone : Admitted). names e (txid_of gone.tx) ≡ false) (replaced_beside over.entries (sibling_of attempt over.policy over.entries tx) tx))
      (without_below (is_counted (sibling_of attempt over.policy over.entries tx) tx) over.entries)
