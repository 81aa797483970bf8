-- How a transaction of a package is judged: the order of admission, with what is asked otherwise of it.
use Rattle.std.specs.Prelude.{ℕ, ◌+◌, ◌-◌, nat_lt, Bool, true, false, not, ◌&&◌, ◌||◌, if◌then◌else◌, List, [], ◌∷◌, ◌++◌, length, is_some, Result}
use Rattle.std.specs.List.{list_any}
use Rattle.gate_bytes.specs.Order.{Rule, first_failing}
use Rattle.gate_tx.specs.declared.TxIn.{TxIn}
use Rattle.gate_tx.specs.Ids.{wtxid_of}
use Rattle.gate_tx.specs.Tx.{Tx}
use Rattle.gate_rules.specs.declared.Denial.{Denial}
use Rattle.gate_rules.specs.declared.Denial.TheVariants.{MempoolConflict, MissingOrSpent, MempoolMinFee, MinRelayFee, TooLongChain, TrucViolation, SpendsConflicting, LowerFeeRate, LowerFee, LowerDifference, MaxFeerate}
use Rattle.gate_standard.specs.Amounts.{feerate}
use Rattle.gate_standard.specs.Rules.{is_truc}
use Rattle.gate_submission.specs.Alone.{alone_rules}
use Rattle.gate_chain.specs.Times.{tip_of}
use Rattle.gate_pool.specs.Pool.{Admitted, spender_of}
use Rattle.gate_pool.specs.Counting.{replaced_beside}
use Rattle.gate_pool.specs.Family.{ancestors_above, is_conflict}
use Rattle.gate_rbf.specs.Replacing.{replacement_rules}
use Rattle.gate_admit.specs.declared.Grant.{Grant}
use Rattle.gate_admit.specs.Limits.{is_within, usual_limits}
use Rattle.gate_admit.specs.Policies.{Policy, incremental_feerate}
use Rattle.gate_admit.specs.Reports.{reported, report_rules, sigop_cost, verdict_rules, vsize_of}
use Rattle.gate_admit.specs.Rules.{balance_rules, coin_value_rules, coins_value, denied_or, fee_rules, final_rules, lock_rules, outputs_value, pool_rules, relay_rule}
use Rattle.gate_admit.specs.Standing.{Standing}
use Rattle.gate_admit.specs.Sweeping.{sweep_rules}
use Rattle.gate_admit.specs.Truc.{breaks_truc, sibling_of}
use Rattle.gate_admit.specs.declared.Attempt.TheVariants.{First}
use Rattle.gate_package.specs.declared.role.Role.{Role}
use Rattle.gate_package.specs.declared.role.Role.TheVariants.{Member, Together, Listed}
use Rattle.gate_package.specs.Coins.{coins_beside, coin_rules_beside}

-- a transaction is of version 3, where that is standard
abbrev pub is_version_three : Policy → Tx → Bool
is_version_three policy tx = policy.standards.truc && is_truc tx

-- a transaction spends what an entry spends
abbrev pub replaces_one : List Admitted → Tx → Bool
replaces_one entries tx = list_any (λ (i : TxIn). is_some (spender_of entries i.prevout)) tx.inputs

-- A21 to A23: one of a list replaces nothing
unfoldable pub pool_rules_as : Role → Policy → List Admitted → Tx → List (Rule Denial)
pool_rules_as Member policy entries tx = pool_rules policy entries tx
pool_rules_as Together policy entries tx = pool_rules policy entries tx
pool_rules_as Listed policy entries tx = pool_rules policy entries tx ++ (MempoolConflict, replaces_one entries tx) ∷ []

-- A34 and A35: those that are judged together pay A34 for one another, and those of version 3 among them A35 too
unfoldable pub payment_rules : Role → Policy → Tx → ℕ → ℕ → ℕ → List (Rule Denial)
payment_rules Member policy tx floor fee vsize = fee_rules policy tx floor fee vsize
payment_rules Together policy tx floor fee vsize = if is_version_three policy tx then [] else relay_rule policy fee vsize ∷ []
payment_rules Listed policy tx floor fee vsize = fee_rules policy tx floor fee vsize

-- A47: a member evicts a sibling, and a transaction that is judged with others doesn't
abbrev pub breaks_truc_as : Role → Policy → List Admitted → Tx → ℕ → Bool
breaks_truc_as Member policy entries tx vsize = breaks_truc First policy entries tx vsize
breaks_truc_as Together policy entries tx vsize = breaks_truc First policy entries tx vsize || is_some (sibling_of First policy entries tx)
breaks_truc_as Listed policy entries tx vsize = breaks_truc First policy entries tx vsize || is_some (sibling_of First policy entries tx)

-- A36, A47 and A37: the first try alone, without room for what is replaced
unfoldable pub family_rules : Role → Policy → List Admitted → Tx → ℕ → List (Rule Denial)
family_rules role policy entries tx vsize =
    (TooLongChain, not (is_within (usual_limits policy) entries (ancestors_above entries tx.inputs) vsize))
    ∷ (TrucViolation, breaks_truc_as role policy entries tx vsize)
    ∷ (SpendsConflicting, list_any (is_conflict tx) (ancestors_above entries tx.inputs))
    ∷ []

-- A50: the feerate, rounded down, is above one that isn't 0
abbrev pub rate_rules : ℕ → ℕ → ℕ → List (Rule Denial)
rate_rules max_rate fee vsize = (MaxFeerate, nat_lt 0 max_rate && nat_lt max_rate (feerate fee vsize)) ∷ []

-- the fee and the size of a transaction behind these others
abbrev pub fee_beside : List Tx → Standing → Tx → ℕ
fee_beside others over tx = coins_value (coins_beside over.chain others over.entries tx.inputs) - outputs_value tx

abbrev pub vsize_beside : List Tx → Standing → Tx → ℕ
vsize_beside others over tx = vsize_of over.policy.sigop_size (sigop_cost (reported tx.inputs (coins_beside over.chain others over.entries tx.inputs)) tx.outputs) tx

-- the first half of the order, A2 to A37, and A50, for a transaction behind these others, which are no entries
unfoldable pub half_rules : Role → ℕ → List Tx → Standing → Tx → List (Rule Denial)
half_rules role max_rate others over tx =
    let coins = coins_beside over.chain others over.entries tx.inputs in
    let fee = fee_beside others over tx in
    let vsize = vsize_beside others over tx in
    alone_rules over.policy.standards tx
    ++ (final_rules over.chain tx
    ++ (pool_rules_as role over.policy over.entries tx
    ++ (coin_rules_beside over.chain others over.entries tx
    ++ (lock_rules over.chain coins tx
    ++ (coin_value_rules (tip_of over.chain + 1) 0 coins
    ++ (balance_rules (coins_value coins) (outputs_value tx)
    ++ (report_rules over.policy (reported tx.inputs coins) fee tx
    ++ (payment_rules role over.policy tx over.floor fee vsize
    ++ (family_rules role over.policy over.entries tx vsize
    ++ rate_rules max_rate fee vsize)))))))))

-- ---- a member by itself

unfoldable pub member_rules : ℕ → Standing → Tx → List (Rule Denial)
member_rules max_rate over tx =
    half_rules Member max_rate [] over tx
    ++ (sweep_rules over.policy.standards over.entries tx
    ++ (replacement_rules (incremental_feerate over.policy) over.policy.parents over.entries (sibling_of First over.policy over.entries tx) tx (fee_beside [] over tx) (vsize_beside [] over tx)
    ++ verdict_rules over.verdicts (wtxid_of tx) 0 tx.inputs))

abbrev pub member_grant : Standing → Tx → Grant
member_grant over tx = record { fee = fee_beside [] over tx; vsize = vsize_beside [] over tx; replaced = length (replaced_beside over.entries (sibling_of First over.policy over.entries tx) tx) }

-- the decision on a member by itself: the first rule that fails, or the grant
abbrev pub member_decision : ℕ → Standing → Tx → Result Grant Denial
member_decision max_rate over tx = denied_or (first_failing (member_rules max_rate over tx)) (member_grant over tx)

-- those that are judged together may mend this denial of a transaction
abbrev pub is_reconsiderable : Policy → Tx → Denial → Bool
is_reconsiderable policy tx MissingOrSpent = true
is_reconsiderable policy tx MempoolMinFee = true
is_reconsiderable policy tx MinRelayFee = is_version_three policy tx
is_reconsiderable policy tx LowerFeeRate = true
is_reconsiderable policy tx LowerFee = true
is_reconsiderable policy tx LowerDifference = true
is_reconsiderable policy tx denial = false
