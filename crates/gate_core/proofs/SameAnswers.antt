-- A transaction has one answer over two chains and two tables of verdicts that say the same where it asks.
use Rattle.std.proofs.Common.{◌≡◌, ◌+◌, ◌-◌, ◌*◌, ◌<◌, ◌||◌, ◌&&◌, not, ℕ, suc, Bool, List, [], ◌∷◌, ◌++◌, Contains, length, Some, None, Result, Ok, Err, refl, sym, ap, ◌∙◌, subst, arith, if◌then◌else◌}
use Rattle.std.specs.Prelude.{is_none, is_some, nat_le, nat_lt, unwrap_or, zip}
use Rattle.std.specs.List.{flat_map, list_all, list_any}
use Rattle.std.specs.Option.{option_or, option_to_list}
use Rattle.gate_bytes.specs.Order.{first_failing}
use Rattle.gate_bytes.proofs.Members.{Contains-head, Contains-rest}
use Rattle.gate_tx.specs.declared.Coin.{Coin}
use Rattle.gate_tx.specs.declared.TxIn.{TxIn}
use Rattle.gate_tx.specs.declared.TxOut.{TxOut}
use Rattle.gate_tx.specs.Ids.{txid_of, wtxid_of}
use Rattle.gate_tx.specs.Tx.{Tx}
use Rattle.gate_rules.specs.declared.Denial.{Denial}
use Rattle.gate_rules.specs.declared.Denial.TheVariants.{NonFinal, AlreadyKnown, MissingOrSpent, NonBip68Final}
use Rattle.gate_chain.specs.Coins.{coin_of, opened_with_of}
use Rattle.gate_chain.specs.History.{History}
use Rattle.gate_chain.specs.Times.{times_of, tip_of, mtp_at, mtp_of}
use Rattle.gate_locks.specs.Finality.{is_final_at}
use Rattle.gate_locks.specs.Locks.{has_relative_locks, is_by_time, is_disabled, is_later_by, is_lock_met_by, median_at, sequence_locks_met_by, span_of}
use Rattle.gate_pool.specs.Pool.{Admitted}
use Rattle.gate_pool.specs.Counting.{replaced_beside}
use Rattle.gate_rbf.specs.Replacing.{replacement_rules}
use Rattle.gate_submission.specs.Alone.{alone_rules}
use Rattle.gate_admit.specs.declared.Attempt.{Attempt}
use Rattle.gate_admit.specs.declared.Attempt.TheVariants.{First}
use Rattle.gate_admit.specs.declared.Grant.{Grant}
use Rattle.gate_admit.specs.Coins.{coins_of, misses_coin, pool_coin, view_coin}
use Rattle.gate_admit.specs.Limits.{limit_rules}
use Rattle.gate_admit.specs.Policies.{Policy, incremental_feerate}
use Rattle.gate_admit.specs.Reports.{report_rules, reported, rules_of_verdict, sigop_cost, verdict_rules, vsize_of}
use Rattle.gate_admit.specs.Rules.{admission_rules, balance_rules, coin_rules, coin_value_rules, coins_value, decision_of, denied_or, final_rules, grant_of, heights_of, is_chain_coin_from, lock_rules, outputs_value, payment_rules, pool_rules}
use Rattle.gate_admit.specs.Standing.{standing}
use Rattle.gate_admit.specs.Submission.{submit_of, submitted_by}
use Rattle.gate_admit.specs.Sweeping.{sweep_rules}
use Rattle.gate_admit.specs.Truc.{sibling_of}
use Rattle.gate_admit.specs.Verdicts.{VerdictTable, verdict_of}

-- ---- lists whose members are asked the same

flat_map_same : {X Y : Type 0} (f g : X → List Y) (xs : List X) → ((x : X) → Contains xs x → f x ≡ g x) → flat_map f xs ≡ flat_map g xs
flat_map_same f g [] same = refl
flat_map_same f g (x ∷ xs) same = λ i. same x (Contains-head x xs) i ++ flat_map_same f g xs (λ y m. same y (Contains-rest x xs y m)) i

list_any_same : {X : Type 0} (f g : X → Bool) (xs : List X) → ((x : X) → Contains xs x → f x ≡ g x) → list_any f xs ≡ list_any g xs
list_any_same f g [] same = refl
list_any_same f g (x ∷ xs) same = λ i. same x (Contains-head x xs) i || list_any_same f g xs (λ y m. same y (Contains-rest x xs y m)) i

-- ---- times

module _ (c d : History) (first : d.first ≡ c.first) (times : times_of d ≡ times_of c) where
  tip_same : tip_of d ≡ tip_of c
  tip_same = λ i. length (times i) + first i - 1

  mtp_same : (height : ℕ) → mtp_of d height ≡ mtp_of c height
  unfolding mtp_of
  mtp_same height = λ i. if nat_lt height (first i) then None else mtp_at (times i) (height - first i)

  median_same : median_at d (tip_of d) ≡ median_at c (tip_of c)
  median_same = ap (λ t. median_at d t) tip_same ∙ ap (λ o. unwrap_or o 0) (mtp_same (tip_of c))

  final_same : (tx : Tx) → final_rules d tx ≡ final_rules c tx
  unfolding final_rules
  final_same tx = λ i. (NonFinal, not (is_final_at tx (tip_same i + 1) (median_same i))) ∷ []

  lock_same : (sequence height : ℕ) → is_lock_met_by d sequence height ≡ is_lock_met_by c sequence height
  unfolding is_lock_met_by
  lock_same sequence height = λ i.
      is_disabled sequence
      || (if is_by_time sequence then is_later_by (512 * span_of sequence) (mtp_same (height - 1) i) (median_same i) else nat_le (height + span_of sequence) (tip_same i + 1))

  locks_same : (tx : Tx) (heights : List ℕ) → sequence_locks_met_by tx heights d ≡ sequence_locks_met_by tx heights c
  unfolding sequence_locks_met_by
  locks_same tx heights = λ i. not (has_relative_locks tx.version) || list_all (λ (p : TxIn × ℕ). lock_same p.0.sequence p.1 i) (zip tx.inputs heights)

-- ---- verdicts

verdicts_same : (a b : VerdictTable) (wtxid : List ℕ) (index : ℕ) (inputs : List TxIn) → ((input : ℕ) → verdict_of b wtxid input ≡ verdict_of a wtxid input)
    → verdict_rules b wtxid index inputs ≡ verdict_rules a wtxid index inputs
unfolding verdict_rules
verdicts_same a b wtxid index [] same = refl
verdicts_same a b wtxid index (input ∷ inputs) same = λ i. rules_of_verdict (same index i) ++ verdicts_same a b wtxid (index + 1) inputs same i

-- ---- outputs

chain_coins_same : (c d : History) (txid : List ℕ) (index : ℕ) (outputs : List TxOut)
    → ((k : ℕ) → k < length outputs → is_some (coin_of d (record { txid = txid; index = index + k })) ≡ is_some (coin_of c (record { txid = txid; index = index + k })))
    → is_chain_coin_from d txid index outputs ≡ is_chain_coin_from c txid index outputs
chain_coins_same c d txid index [] same = refl
chain_coins_same c d txid index (o ∷ outputs) same =
    let at : (k j : ℕ) → k ≡ j → is_some (coin_of d (record { txid = txid; index = k })) ≡ is_some (coin_of c (record { txid = txid; index = k })) → is_some (coin_of d (record { txid = txid; index = j })) ≡ is_some (coin_of c (record { txid = txid; index = j })) =
    λ k j e. subst (λ (m : ℕ). is_some (coin_of d (record { txid = txid; index = m })) ≡ is_some (coin_of c (record { txid = txid; index = m }))) e in
    let here = at (index + 0) index (omega arith) (same 0 (omega arith)) in
    let above = chain_coins_same c d txid (index + 1) outputs (λ k lt. at (index + suc k) (index + 1 + k) (omega arith) (same (suc k) (omega arith))) in
    λ i. here i || above i

-- ---- the decision

module _ (c d : History) (entries : List Admitted) (floor : ℕ) (a b : VerdictTable) (policy : Policy) (tx : Tx)
    (first : d.first ≡ c.first) (times : times_of d ≡ times_of c)
    (coins : (i : TxIn) → Contains tx.inputs i → coin_of d i.prevout ≡ coin_of c i.prevout)
    (verdicts : (input : ℕ) → verdict_of b (wtxid_of tx) input ≡ verdict_of a (wtxid_of tx) input)
    (opened : opened_with_of d (txid_of tx) ≡ opened_with_of c (txid_of tx))
    (outputs : (index : ℕ) → index < length tx.outputs → is_some (coin_of d (record { txid = txid_of tx; index = index })) ≡ is_some (coin_of c (record { txid = txid_of tx; index = index }))) where
  view_same : (i : TxIn) → Contains tx.inputs i → view_coin d entries i.prevout ≡ view_coin c entries i.prevout
  view_same i m = λ j. option_or (pool_coin (tip_same c d first times j + 1) entries i.prevout) (coins i m j)

  coins_same : coins_of d entries tx.inputs ≡ coins_of c entries tx.inputs
  coins_same =
      flat_map_same (λ (i : TxIn). option_to_list (view_coin d entries i.prevout)) (λ (i : TxIn). option_to_list (view_coin c entries i.prevout)) tx.inputs
      (λ i m. ap option_to_list (view_same i m))

  misses_same : misses_coin d entries tx.inputs ≡ misses_coin c entries tx.inputs
  misses_same =
      list_any_same (λ (i : TxIn). is_none (view_coin d entries i.prevout)) (λ (i : TxIn). is_none (view_coin c entries i.prevout)) tx.inputs
      (λ i m. ap is_none (view_same i m))

  made_same : is_chain_coin_from d (txid_of tx) 0 tx.outputs ≡ is_chain_coin_from c (txid_of tx) 0 tx.outputs
  made_same =
      let at : (k j : ℕ) → j ≡ k → is_some (coin_of d (record { txid = txid_of tx; index = k })) ≡ is_some (coin_of c (record { txid = txid_of tx; index = k })) → is_some (coin_of d (record { txid = txid_of tx; index = j })) ≡ is_some (coin_of c (record { txid = txid_of tx; index = j })) =
      λ k j e. subst (λ (m : ℕ). is_some (coin_of d (record { txid = txid_of tx; index = m })) ≡ is_some (coin_of c (record { txid = txid_of tx; index = m }))) (sym e) in
      chain_coins_same c d (txid_of tx) 0 tx.outputs (λ k lt. at k (0 + k) (omega arith) (outputs k lt))

  coin_rules_same : coin_rules d entries tx ≡ coin_rules c entries tx
  unfolding coin_rules
  coin_rules_same = λ i. (AlreadyKnown, (misses_same i && made_same i) || opened i) ∷ (MissingOrSpent, misses_same i) ∷ []

  lock_rules_same : lock_rules d (coins_of d entries tx.inputs) tx ≡ lock_rules c (coins_of c entries tx.inputs) tx
  unfolding lock_rules
  lock_rules_same =
      ap (λ (l : List Coin). (NonBip68Final, not (sequence_locks_met_by tx (heights_of l) d)) ∷ []) coins_same
      ∙ ap (λ (met : Bool). (NonBip68Final, not met) ∷ []) (locks_same c d first times tx (heights_of (coins_of c entries tx.inputs)))

  rules_same : (attempt : Attempt) → admission_rules attempt (standing d entries floor b policy) tx ≡ admission_rules attempt (standing c entries floor a policy) tx
  unfolding admission_rules
  rules_same attempt = λ i.
      let coins = coins_same i in
      let answers = reported tx.inputs coins in
      let fee = coins_value coins - outputs_value tx in
      let vsize = vsize_of policy.sigop_size (sigop_cost answers tx.outputs) tx in
      alone_rules policy.standards tx
      ++ (final_same c d first times tx i
      ++ (pool_rules policy entries tx
      ++ (coin_rules_same i
      ++ (lock_rules_same i
      ++ (coin_value_rules (tip_same c d first times i + 1) 0 coins
      ++ (balance_rules (coins_value coins) (outputs_value tx)
      ++ (report_rules policy answers fee tx
      ++ (payment_rules attempt policy tx floor fee vsize
      ++ (limit_rules attempt policy entries tx vsize
      ++ (sweep_rules policy.standards entries tx
      ++ (replacement_rules (incremental_feerate policy) policy.parents entries (sibling_of attempt policy entries tx) tx fee vsize
      ++ verdicts_same a b (wtxid_of tx) 0 tx.inputs verdicts i)))))))))))

  grant_same : (attempt : Attempt) → grant_of attempt (standing d entries floor b policy) tx ≡ grant_of attempt (standing c entries floor a policy) tx
  unfolding grant_of
  grant_same attempt = ap (λ (coins : List Coin). grant_with coins) coins_same
    where
      grant_with : List Coin → Grant
      grant_with coins = record {
        fee = coins_value coins - outputs_value tx;
        vsize = vsize_of policy.sigop_size (sigop_cost (reported tx.inputs coins) tx.outputs) tx;
        replaced = length (replaced_beside entries (sibling_of attempt policy entries tx) tx);
      }

  pub decision_same : (attempt : Attempt) → decision_of attempt (standing d entries floor b policy) (Some tx) ≡ decision_of attempt (standing c entries floor a policy) (Some tx)
  unfolding decision_of
  decision_same attempt = λ i. denied_or (first_failing (rules_same attempt i)) (grant_same attempt i)

  pub outcome_same : (now budget : ℕ) → submit_of (standing d entries floor b policy) (Some tx) now budget ≡ submit_of (standing c entries floor a policy) (Some tx) now budget
  unfolding submit_of
  outcome_same now budget =
      elsewhere (decision_of First (standing d entries floor b policy) (Some tx))
      ∙ ap (submitted_by (standing c entries floor a policy) (Some tx) now budget) (decision_same First)
    where
      elsewhere : (decision : Result Grant Denial) → submitted_by (standing d entries floor b policy) (Some tx) now budget decision ≡ submitted_by (standing c entries floor a policy) (Some tx) now budget decision
      elsewhere (Ok grant) = refl
      elsewhere (Err denial) = refl
