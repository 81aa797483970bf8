-- The written order of admission, and the decision: the first rule that fails, or a grant.
use Rattle.std.specs.Prelude.{ℕ, ◌+◌, ◌-◌, ℤ, nat_lt, Bool, false, not, ◌||◌, ◌&&◌, map, is_some, List, [], ◌∷◌, ◌++◌, sum_by, if◌then◌else◌, Option, Some, None, Result, Ok, Err, length}
use Rattle.std.specs.List.{list_any}
use Rattle.gate_bytes.specs.Order.{Rule, first_failing}
use Rattle.gate_tx.specs.Money.{max_money, is_money, amount_or_zero}
use Rattle.gate_tx.specs.declared.Coin.{Coin}
use Rattle.gate_tx.specs.declared.TxOut.{TxOut}
use Rattle.gate_tx.specs.Tx.{Tx}
use Rattle.gate_tx.specs.Ids.{txid_of, wtxid_of}
use Rattle.gate_rules.specs.declared.Denial.{Denial}
use Rattle.gate_rules.specs.declared.Denial.TheVariants.{Decode, NonFinal, AlreadyInMempool, SameNonWitnessData, MempoolConflict, AlreadyKnown, MissingOrSpent, NonBip68Final, PrematureSpend, InputValues, InBelowOut, FeeOutOfRange, MempoolMinFee, MinRelayFee}
use Rattle.gate_standard.specs.Amounts.{required_fee}
use Rattle.gate_standard.specs.Rules.{is_truc}
use Rattle.gate_submission.specs.Alone.{alone_rules}
use Rattle.gate_chain.specs.History.{History}
use Rattle.gate_chain.specs.Coins.{coin_of, opened_with_of}
use Rattle.gate_chain.specs.Times.{tip_of}
use Rattle.gate_locks.specs.Finality.{is_final_at}
use Rattle.gate_locks.specs.Locks.{median_at, sequence_locks_met_by}
use Rattle.gate_admit.specs.declared.grant.Grant.{Grant}
use Rattle.gate_pool.specs.Pool.{Admitted, entry_by_txid, entry_by_wtxid}
use Rattle.gate_pool.specs.Counting.{replaced_beside}
use Rattle.gate_rbf.specs.Replacing.{is_non_signalling_conflict, replacement_rules}
use Rattle.gate_admit.specs.declared.attempt.Attempt.{Attempt}
use Rattle.gate_admit.specs.declared.attempt.Attempt.TheVariants.{First, Again}
use Rattle.gate_admit.specs.Policies.{Policy, incremental_feerate, feerate_by, relay_feerate}
use Rattle.gate_admit.specs.Standing.{Standing}
use Rattle.gate_admit.specs.Coins.{misses_coin, coins_of}
use Rattle.gate_admit.specs.Limits.{limit_rules}
use Rattle.gate_admit.specs.Truc.{sibling_of}
use Rattle.gate_admit.specs.Sweeping.{sweep_rules}
use Rattle.gate_admit.specs.Reports.{reported, sigop_cost, vsize_of, report_rules, verdict_rules}

-- ---- A20: the locktime

unfoldable pub final_rules : History → Tx → List (Rule Denial)
final_rules chain tx = (NonFinal, not (is_final_at tx (tip_of chain + 1) (median_at chain (tip_of chain)))) ∷ []

-- ---- A21 to A23: the transaction beside the entries of the pool

-- under full replacement no entry is asked for a signal, and where version 3 is standard it says so by itself
unfoldable pub pool_rules : Policy → List Admitted → Tx → List (Rule Denial)
pool_rules policy entries tx =
    (AlreadyInMempool, is_some (entry_by_wtxid entries (wtxid_of tx)))
    ∷ (SameNonWitnessData, is_some (entry_by_txid entries (txid_of tx)))
    ∷ (MempoolConflict, not policy.full_rbf && list_any (is_non_signalling_conflict policy.standards.truc tx) entries)
    ∷ []

-- ---- A24 and A25: whether each input has a coin

-- whether one of these outputs of a transaction, the first at this index, is an unspent coin of the chain
abbrev pub is_chain_coin_from : History → List ℕ → ℕ → List TxOut → Bool
is_chain_coin_from chain txid index [] = false
is_chain_coin_from chain txid index (o ∷ outputs) =
    is_some (coin_of chain (record { txid = txid; index = index })) || is_chain_coin_from chain txid (index + 1) outputs

unfoldable pub coin_rules : History → List Admitted → Tx → List (Rule Denial)
coin_rules chain entries tx =
    (AlreadyKnown, (misses_coin chain entries tx.inputs && is_chain_coin_from chain (txid_of tx) 0 tx.outputs) || opened_with_of chain (txid_of tx))
    ∷ (MissingOrSpent, misses_coin chain entries tx.inputs)
    ∷ []

-- ---- A26: relative timelocks

abbrev pub heights_of : List Coin → List ℕ
heights_of coins = map (λ (c : Coin). c.height) coins

unfoldable pub lock_rules : History → List Coin → Tx → List (Rule Denial)
lock_rules chain coins tx = (NonBip68Final, not (sequence_locks_met_by tx (heights_of coins) chain)) ∷ []

-- ---- A27 and A28: the depth of a coinbase's coin, the value of each coin, and the sum up to it

-- a coin of a coinbase that stands less than 100 blocks below the next
abbrev pub is_immature : ℕ → Coin → Bool
is_immature next_height coin = coin.coinbase && nat_lt (next_height - coin.height) 100

abbrev pub is_outside : ℤ → Bool
is_outside value = not (is_money value)

-- the rules on one coin, if the coins before it sum to this
abbrev pub rules_of_coin : ℕ → ℕ → Coin → List (Rule Denial)
rules_of_coin next_height sum coin =
    (PrematureSpend, is_immature next_height coin)
    ∷ (InputValues, is_outside coin.value || nat_lt max_money (sum + amount_or_zero coin.value))
    ∷ []

-- the rules on the coins, input by input
unfoldable pub coin_value_rules : ℕ → ℕ → List Coin → List (Rule Denial)
coin_value_rules next_height sum [] = []
coin_value_rules next_height sum (coin ∷ coins) = rules_of_coin next_height sum coin ++ coin_value_rules next_height (sum + amount_or_zero coin.value) coins

-- ---- A29, A30, A34 and A35: what is paid

-- the sum of the coins and that of the outputs, in satoshi
abbrev pub coins_value : List Coin → ℕ
coins_value coins = sum_by (λ (c : Coin). amount_or_zero c.value) coins

abbrev pub outputs_value : Tx → ℕ
outputs_value tx = sum_by (λ (o : TxOut). amount_or_zero o.value) tx.outputs

-- the coins cover the outputs, and the fee is an amount that there can be
unfoldable pub balance_rules : ℕ → ℕ → List (Rule Denial)
balance_rules paid_in paid_out =
    (InBelowOut, nat_lt paid_in paid_out)
    ∷ (FeeOutOfRange, nat_lt max_money (paid_in - paid_out))
    ∷ []

-- the fee that the pool's floor asks for the size
abbrev pub floor_rule : Policy → ℕ → ℕ → ℕ → Rule Denial
floor_rule policy floor fee vsize = (MempoolMinFee, nat_lt fee (required_fee (feerate_by policy floor) vsize))

-- the one that every relay asks
abbrev pub relay_rule : Policy → ℕ → ℕ → Rule Denial
relay_rule policy fee vsize = (MinRelayFee, nat_lt fee (required_fee (relay_feerate policy) vsize))

-- what every relay asks comes first if the policy says so, but not for version 3 where that is standard
abbrev pub is_relay_fee_first : Policy → Tx → Bool
is_relay_fee_first policy tx = policy.relay_fee_first && not (policy.standards.truc && is_truc tx)

-- both, in the order that the policy says; a rate of 0 asks for nothing
unfoldable pub fee_rules : Policy → Tx → ℕ → ℕ → ℕ → List (Rule Denial)
fee_rules policy tx floor fee vsize =
    if is_relay_fee_first policy tx then relay_rule policy fee vsize ∷ floor_rule policy floor fee vsize ∷ []
    else floor_rule policy floor fee vsize ∷ relay_rule policy fee vsize ∷ []

-- a transaction that is tried again paid its way into a block before
abbrev pub payment_rules : Attempt → Policy → Tx → ℕ → ℕ → ℕ → List (Rule Denial)
payment_rules First policy tx floor fee vsize = fee_rules policy tx floor fee vsize
payment_rules Again policy tx floor fee vsize = []

-- ---- the whole

-- the rules on a transaction over a chain, a pool, its floor, the verdicts at hand and the policy, in the written order
unfoldable pub admission_rules : Attempt → Standing → Tx → List (Rule Denial)
admission_rules attempt over tx =
    let coins = coins_of over.chain over.entries tx.inputs in
    let answers = reported tx.inputs coins in
    let fee = coins_value coins - outputs_value tx in
    let vsize = vsize_of over.policy.sigop_size (sigop_cost answers tx.outputs) tx in
    alone_rules over.policy.standards tx
    ++ (final_rules over.chain tx
    ++ (pool_rules over.policy over.entries tx
    ++ (coin_rules over.chain over.entries tx
    ++ (lock_rules over.chain coins tx
    ++ (coin_value_rules (tip_of over.chain + 1) 0 coins
    ++ (balance_rules (coins_value coins) (outputs_value tx)
    ++ (report_rules over.policy answers fee tx
    ++ (payment_rules attempt over.policy tx over.floor fee vsize
    ++ (limit_rules attempt over.policy over.entries tx vsize
    ++ (sweep_rules over.policy.standards over.entries tx
    ++ (replacement_rules (incremental_feerate over.policy) over.policy.parents over.entries (sibling_of attempt over.policy over.entries tx) tx fee vsize
    ++ verdict_rules over.verdicts (wtxid_of tx) 0 tx.inputs)))))))))))

-- what a grant says of a transaction at an attempt
unfoldable pub grant_of : Attempt → Standing → Tx → Grant
grant_of attempt over tx =
    let coins = coins_of over.chain over.entries tx.inputs in
    record {
      fee = coins_value coins - outputs_value tx;
      vsize = vsize_of over.policy.sigop_size (sigop_cost (reported tx.inputs coins) tx.outputs) tx;
      replaced = length (replaced_beside over.entries (sibling_of attempt over.policy over.entries tx) tx);
    }

abbrev pub denied_or : Option Denial → Grant → Result Grant Denial
denied_or (Some denial) grant = Err denial
denied_or None grant = Ok grant

-- the decision on a submission: the first rule that fails, or the grant
unfoldable pub decision_of : Attempt → Standing → Option Tx → Result Grant Denial
decision_of attempt over None = Err Decode
decision_of attempt over (Some tx) = denied_or (first_failing (admission_rules attempt over tx)) (grant_of attempt over tx)
