-- What each group of rules says where none of them fails.
use Rattle.std.proofs.Common.{◌≡◌, ◌+◌, None}
use Rattle.std.specs.Prelude.{◌-◌}
use Rattle.gate_bytes.specs.Order.{first_failing, NoneFails}
use Rattle.gate_bytes.proofs.OrderLemmas.{none_fails-append, none_fails}
use Rattle.gate_tx.specs.Ids.{wtxid_of}
use Rattle.gate_tx.specs.Tx.{Tx}
use Rattle.gate_chain.specs.Times.{tip_of}
use Rattle.gate_admit.specs.declared.attempt.Attempt.{Attempt}
use Rattle.gate_admit.specs.Coins.{coins_of}
use Rattle.gate_admit.specs.Reports.{reported, report_rules, sigop_cost, vsize_of, verdict_rules}
use Rattle.gate_rbf.specs.Replacing.{replacement_rules}
use Rattle.gate_admit.specs.Limits.{limit_rules}
use Rattle.gate_admit.specs.Sweeping.{sweep_rules}
use Rattle.gate_admit.specs.Rules.{final_rules, pool_rules, coin_rules, lock_rules, coin_value_rules, balance_rules, payment_rules, admission_rules, coins_value, outputs_value}
use Rattle.gate_submission.specs.Alone.{alone_rules}
use Rattle.gate_admit.specs.Standing.{Standing}
use Rattle.gate_admit.specs.Policies.{incremental_feerate}
use Rattle.gate_admit.specs.Truc.{sibling_of}

-- no rule fails, group by group
pub record Passes (attempt : Attempt) (over : Standing) (tx : Tx) : Type 0 where
  pub alone : NoneFails (alone_rules over.policy.standards tx)
  pub final : NoneFails (final_rules over.chain tx)
  pub pool : NoneFails (pool_rules over.policy over.entries tx)
  pub coin : NoneFails (coin_rules over.chain over.entries tx)
  pub lock : NoneFails (lock_rules over.chain (coins_of over.chain over.entries tx.inputs) tx)
  pub value : NoneFails (coin_value_rules (tip_of over.chain + 1) 0 (coins_of over.chain over.entries tx.inputs))
  pub balance : NoneFails (balance_rules (coins_value (coins_of over.chain over.entries tx.inputs)) (outputs_value tx))
  pub report : NoneFails (report_rules over.policy (reported tx.inputs (coins_of over.chain over.entries tx.inputs)) (coins_value (coins_of over.chain over.entries tx.inputs) - outputs_value tx) tx)
  pub payment : NoneFails (payment_rules attempt over.policy tx over.floor (coins_value (coins_of over.chain over.entries tx.inputs) - outputs_value tx) (vsize_of over.policy.sigop_size (sigop_cost (reported tx.inputs (coins_of over.chain over.entries tx.inputs)) tx.outputs) tx))
  pub limits : NoneFails (limit_rules attempt over.policy over.entries tx (vsize_of over.policy.sigop_size (sigop_cost (reported tx.inputs (coins_of over.chain over.entries tx.inputs)) tx.outputs) tx))
  pub sweep : NoneFails (sweep_rules over.policy.standards over.entries tx)
  pub replacement : NoneFails (replacement_rules (incremental_feerate over.policy) over.policy.parents over.entries (sibling_of attempt over.policy over.entries tx) tx (coins_value (coins_of over.chain over.entries tx.inputs) - outputs_value tx) (vsize_of over.policy.sigop_size (sigop_cost (reported tx.inputs (coins_of over.chain over.entries tx.inputs)) tx.outputs) tx))

pub passes : (attempt : Attempt) (over : Standing) (tx : Tx) → first_failing (admission_rules attempt over tx) ≡ None → Passes attempt over tx
unfolding admission_rules
passes attempt over tx h =
    let coins = coins_of over.chain over.entries tx.inputs in
    let answers = reported tx.inputs coins in
    let fee = coins_value coins - outputs_value tx in
    let vsize = vsize_of over.policy.sigop_size (sigop_cost answers tx.outputs) tx in
    let alone = none_fails-append (alone_rules over.policy.standards tx) _ (none_fails _ h) in
    let final = none_fails-append (final_rules over.chain tx) _ alone.1 in
    let pool = none_fails-append (pool_rules over.policy over.entries tx) _ final.1 in
    let coin = none_fails-append (coin_rules over.chain over.entries tx) _ pool.1 in
    let lock = none_fails-append (lock_rules over.chain coins tx) _ coin.1 in
    let value = none_fails-append (coin_value_rules (tip_of over.chain + 1) 0 coins) _ lock.1 in
    let balance = none_fails-append (balance_rules (coins_value coins) (outputs_value tx)) _ value.1 in
    let report = none_fails-append (report_rules over.policy answers fee tx) _ balance.1 in
    let payment = none_fails-append (payment_rules attempt over.policy tx over.floor fee vsize) _ report.1 in
    let limits = none_fails-append (limit_rules attempt over.policy over.entries tx vsize) _ payment.1 in
    let sweep = none_fails-append (sweep_rules over.policy.standards over.entries tx) _ limits.1 in
    let replacement = none_fails-append (replacement_rules (incremental_feerate over.policy) over.policy.parents over.entries (sibling_of attempt over.policy over.entries tx) tx fee vsize) (verdict_rules over.verdicts (wtxid_of tx) 0 tx.inputs) sweep.1 in
    record {
      alone = alone.0;
      final = final.0;
      pool = pool.0;
      coin = coin.0;
      lock = lock.0;
      value = value.0;
      balance = balance.0;
      report = report.0;
      payment = payment.0;
      limits = limits.0;
      sweep = sweep.0;
      replacement = replacement.0;
    }
