-- What a grant says of a transaction: its inputs are live, value is conserved, and an entry holds its numbers.
use Rattle.std.proofs.Common.{◌≡◌, ◌≢◌, ◌≤◌, ◌+◌, ◌*◌, ◌/◌, ℕ, Bool, true, false, not, ◌&&◌, List, [], ◌∷◌, get_or, Option, Some, None, Result, Ok, Err, refl, sym, ap, ◌∙◌, subst, arith}
use Rattle.std.specs.Prelude.{◌-◌, if◌then◌else◌, map, max, is_some, is_none, IsSome, IfSome, IfOk, OnOk, flat_map}
use Rattle.std.specs.Str.{bytes_eq}
use Rattle.std.specs.List.{All, AllPairs, list_any}
use Rattle.std.proofs.lemmas.Bool.{true≢false, or_parts, ltb-false}
use Rattle.std.proofs.lemmas.Slice.Eq.{bytes_eq-Decides}
use Rattle.std.proofs.lemmas.List.Elements.{All-nil, All-cons, All-tail, All-append, All-filter, All-map, All-weaker, Contains-get_or, filter_passes}
use Rattle.std.proofs.lemmas.List.Kept.{AllPairs-cons}
use Rattle.std.proofs.Math.Nat.{add-sub_of_le}
use Rattle.gate_bytes.specs.Order.{Rule, first_failing, NoneFails}
use Rattle.gate_bytes.proofs.OrderLemmas.{none_fails-append, none_fails}
use Rattle.gate_bytes.specs.declared.Memory.{Memory}
use Rattle.gate_tx.specs.declared.Coin.{Coin}
use Rattle.gate_tx.specs.declared.OutPoint.{OutPoint}
use Rattle.gate_tx.specs.declared.TxIn.{TxIn}
use Rattle.gate_tx.specs.Coins.{point_eq, spends}
use Rattle.gate_tx.specs.Equality.{out_point_decides}
use Rattle.gate_tx.specs.Ids.{txid_of, wtxid_of}
use Rattle.gate_tx.specs.Money.{max_money, amount_or_zero}
use Rattle.gate_tx.specs.Sizes.{weight_of, stripped_size_of}
use Rattle.gate_tx.specs.Tx.{Tx}
use Rattle.gate_rules.specs.declared.Denial.{Denial}
use Rattle.gate_rules.specs.declared.Denial.TheVariants.{Decode}
use Rattle.gate_standard.specs.Amounts.{required_fee}
use Rattle.gate_standard.specs.Rules.{transaction_rules, version_rules, form_rules, output_rules, output_value_rules, spends_twice, rules_of_input, rules_of_output}
use Rattle.gate_chain.specs.Times.{tip_of}
use Rattle.gate_pool.specs.Pool.{Admitted, spends_of, spent_by, entry_by_txid, entry_by_wtxid}
use Rattle.gate_pool.specs.Counting.{is_counted}
use Rattle.gate_pool.specs.Family.{is_conflict, conflicts_of, without_below, ancestors_above}
use Rattle.gate_rbf.specs.Replacing.{is_replaceable, is_non_signalling_conflict}
use Rattle.gate_admit.specs.declared.attempt.Attempt.{Attempt}
use Rattle.gate_admit.specs.declared.attempt.Attempt.TheVariants.{First}
use Rattle.gate_admit.specs.declared.grant.Grant.{Grant}
use Rattle.gate_admit.specs.Bounds.{FitsEntry, FitsAnEntry}
use Rattle.gate_admit.specs.Coins.{view_coin, coins_of}
use Rattle.gate_admit.specs.Granting.{IsGrantable, Conserves, PaysItsSize}
use Rattle.gate_admit.specs.Policies.{Policy, feerate_by, relay_feerate}
use Rattle.gate_admit.specs.Limits.{limit_rules}
use Rattle.gate_admit.specs.Reports.{reported, report_rules, sigop_cost, vsize_of}
use Rattle.gate_admit.specs.Rules.{final_rules, pool_rules, coin_rules, lock_rules, is_immature, rules_of_coin, coin_value_rules, balance_rules, fee_rules, floor_rule, is_relay_fee_first, payment_rules, relay_rule, admission_rules, grant_of, denied_or, decision_of, coins_value, outputs_value}
use Rattle.gate_standard.specs.declared.Standards.{Standards}
use Rattle.gate_admit.specs.Policies.{IsPolicy}
use Rattle.gate_admit.proofs.Weighing.{positive, counted}
use Rattle.gate_submission.specs.Alone.{alone_rules}
use Rattle.gate_admit.specs.Standing.{Standing}
use Rattle.gate_rbf.proofs.Conflicting.{is_some-find}
use Rattle.gate_admit.proofs.Lists.{none_pass, AllPairs-nil}
use Rattle.gate_admit.proofs.Passing.{Passes, passes}
use Rattle.gate_admit.proofs.Staying.{stays_apart}

-- ---- outpoints and ids

abbrev pub Differ : OutPoint → OutPoint → Type 0
Differ p q = p ≢ q

points_differ : (p q : OutPoint) → point_eq p q ≡ false → p ≢ q
points_differ p q h = λ e. true≢false (sym ((out_point_decides p q).1 e) ∙ h)

points_differ_back : (p q : OutPoint) → point_eq q p ≡ false → p ≢ q
points_differ_back p q h = λ e. points_differ q p h (sym e)

pub ids_differ : (a b : List ℕ) → bytes_eq a b ≡ false → a ≢ b
ids_differ a b h = λ e. true≢false (sym ((bytes_eq-Decides a b).1 e) ∙ h)

-- inputs of which no two spend one outpoint
pub spends_once : (inputs : List TxIn) → spends_twice inputs ≡ false → AllPairs Differ (map (λ (i : TxIn). i.prevout) inputs)
spends_once [] h = AllPairs-nil Differ
spends_once (i ∷ inputs) h =
    let parts = or_parts (spends inputs i.prevout) (spends_twice inputs) h in
    AllPairs-cons Differ i.prevout (map (λ (j : TxIn). j.prevout) inputs)
    (All-map (λ (q : OutPoint). i.prevout ≢ q) (λ (j : TxIn). j.prevout) inputs
    (All-weaker (λ (j : TxIn). point_eq j.prevout i.prevout ≡ false) (λ (j : TxIn). i.prevout ≢ j.prevout) (λ j. points_differ_back i.prevout j.prevout) inputs
    (none_pass (λ (j : TxIn). point_eq j.prevout i.prevout) inputs parts.0)))
    (spends_once inputs parts.1)

-- an entry that is no conflict spends nothing that the transaction does
no_conflict : (tx : Tx) (e : Admitted) → is_conflict tx e ≡ false → All (λ (p : OutPoint). All (λ (q : OutPoint). p ≢ q) (spends_of tx)) (spends_of e.tx)
no_conflict tx e h =
    All-map (λ (p : OutPoint). All (λ (q : OutPoint). p ≢ q) (spends_of tx)) (λ (j : TxIn). j.prevout) e.tx.inputs
    (λ k d l.
    All-map (λ (q : OutPoint). (get_or e.tx.inputs k d).prevout ≢ q) (λ (i : TxIn). i.prevout) tx.inputs
    (λ n c m. points_differ (get_or e.tx.inputs k d).prevout (get_or tx.inputs n c).prevout
    (none_pass (λ (j : TxIn). point_eq j.prevout (get_or tx.inputs n c).prevout) e.tx.inputs
    (none_pass (λ (i : TxIn). spends e.tx.inputs i.prevout) tx.inputs h n c m) k d l)))

pub no_conflicts : (tx : Tx) (entries : List Admitted) → All (λ (e : Admitted). is_conflict tx e ≡ false) entries → All (λ (p : OutPoint). All (λ (q : OutPoint). p ≢ q) (spends_of tx)) (spent_by entries)
no_conflicts tx [] h = All-nil (λ (p : OutPoint). All (λ (q : OutPoint). p ≢ q) (spends_of tx))
no_conflicts tx (e ∷ entries) h =
    All-append (λ (p : OutPoint). All (λ (q : OutPoint). p ≢ q) (spends_of tx)) (spends_of e.tx) (spent_by entries)
    (no_conflict tx e (h 0 e (omega arith)))
    (no_conflicts tx entries (All-tail (λ (e : Admitted). is_conflict tx e ≡ false) e entries h))

-- no entry that stays beside what counts as a conflict does
pub unspent_beside : (sibling : Option (List ℕ)) (tx : Tx) (entries : List Admitted) → All (λ (p : OutPoint). All (λ (q : OutPoint). p ≢ q) (spends_of tx)) (spent_by (without_below (is_counted sibling tx) entries))
unspent_beside sibling tx entries = no_conflicts tx (without_below (is_counted sibling tx) entries)
    (λ k d l. (or_parts _ _ (stays_apart (is_counted sibling tx) entries _ (Contains-get_or (without_below (is_counted sibling tx) entries) k d l))).1)

-- a conflict that is not one of those without a signal says that it may be replaced
is_signalling : (conflicts says : Bool) → conflicts ≡ true → (conflicts && not says) ≡ false → says ≡ true
is_signalling true true c h = refl
is_signalling true false c h = sym h
is_signalling false says c h = absurd (true≢false (sym c))

all_signal : (truc : Bool) (tx : Tx) (entries : List Admitted) → list_any (is_non_signalling_conflict truc tx) entries ≡ false → All (λ (e : Admitted). is_replaceable truc e.tx ≡ true) (conflicts_of entries tx)
all_signal truc tx entries h = λ k d l.
    is_signalling (is_conflict tx (get_or (conflicts_of entries tx) k d)) (is_replaceable truc (get_or (conflicts_of entries tx) k d).tx)
    (filter_passes (is_conflict tx) entries k d l)
    (All-filter (is_conflict tx) (λ (e : Admitted). is_non_signalling_conflict truc tx e ≡ false) entries (none_pass (is_non_signalling_conflict truc tx) entries h) k d l)

-- ---- live inputs

pub some_from_not_none : {X : Type 0} (o : Option X) → is_none o ≡ false → is_some o ≡ true
some_from_not_none None h = sym h
some_from_not_none (Some x) h = refl

true_from_not : (b : Bool) → not b ≡ false → b ≡ true
true_from_not true h = refl
true_from_not false h = sym h

pub each_once : (standards : Standards) (tx : Tx) → NoneFails (alone_rules standards tx) → spends_twice tx.inputs ≡ false
unfolding alone_rules transaction_rules
each_once standards tx h =
    let every = (none_fails-append (transaction_rules tx) _ h).0 in
    (none_fails-append (output_value_rules 0 tx.outputs) _ every.1.1.1).1.0

each_mature : (next_height sum : ℕ) (coins : List Coin) → NoneFails (coin_value_rules next_height sum coins) → All (λ (c : Coin). is_immature next_height c ≡ false) coins
unfolding coin_value_rules
each_mature next_height sum [] h = All-nil (λ (c : Coin). is_immature next_height c ≡ false)
each_mature next_height sum (coin ∷ coins) h =
    let parts = none_fails-append (rules_of_coin next_height sum coin) (coin_value_rules next_height (sum + amount_or_zero coin.value) coins) h in
    All-cons (λ (c : Coin). is_immature next_height c ≡ false) coin coins parts.0.0 (each_mature next_height (sum + amount_or_zero coin.value) coins parts.1)

-- no entry passes the tests of the pool's rules
unpooled : (policy : Policy) (entries : List Admitted) (tx : Tx) → NoneFails (pool_rules policy entries tx)
    → (list_any (λ (e : Admitted). bytes_eq (txid_of e.tx) (txid_of tx)) entries ≡ false) × (list_any (λ (e : Admitted). bytes_eq (wtxid_of e.tx) (wtxid_of tx)) entries ≡ false) × ((not policy.full_rbf && list_any (is_non_signalling_conflict policy.standards.truc tx) entries) ≡ false)
unfolding pool_rules
unpooled policy entries tx h = (
  sym (is_some-find (λ (e : Admitted). bytes_eq (txid_of e.tx) (txid_of tx)) entries) ∙ h.1.0,
  sym (is_some-find (λ (e : Admitted). bytes_eq (wtxid_of e.tx) (wtxid_of tx)) entries) ∙ h.0,
  h.1.1.0,
)

-- where a signal is asked for, no conflict lacks it
none_is_non_signalling : (full some : Bool) → full ≡ false → (not full && some) ≡ false → some ≡ false
none_is_non_signalling true some asked h = absurd (true≢false asked)
none_is_non_signalling false some asked h = h

live : (attempt : Attempt) (over : Standing) (tx : Tx) → Passes attempt over tx → IsGrantable over tx
unfolding final_rules coin_rules lock_rules limit_rules
live attempt over tx p =
    let fresh = unpooled over.policy over.entries tx p.pool in
    record {
      txid = All-weaker (λ (e : Admitted). bytes_eq (txid_of e.tx) (txid_of tx) ≡ false) (λ (e : Admitted). txid_of e.tx ≢ txid_of tx) (λ e. ids_differ (txid_of e.tx) (txid_of tx)) over.entries
          (none_pass (λ (e : Admitted). bytes_eq (txid_of e.tx) (txid_of tx)) over.entries fresh.0);
      wtxid = All-weaker (λ (e : Admitted). bytes_eq (wtxid_of e.tx) (wtxid_of tx) ≡ false) (λ (e : Admitted). wtxid_of e.tx ≢ wtxid_of tx) (λ e. ids_differ (wtxid_of e.tx) (wtxid_of tx)) over.entries
          (none_pass (λ (e : Admitted). bytes_eq (wtxid_of e.tx) (wtxid_of tx)) over.entries fresh.1);
      replaceable = λ asked. all_signal over.policy.standards.truc tx over.entries (none_is_non_signalling over.policy.full_rbf (list_any (is_non_signalling_conflict over.policy.standards.truc tx) over.entries) asked fresh.2);
      beside = none_pass (is_conflict tx) (ancestors_above over.entries tx.inputs) p.limits.1.1.0;
      unspent = no_conflicts tx (without_below (is_conflict tx) over.entries)
          (λ k d l. stays_apart (is_conflict tx) over.entries _ (Contains-get_or (without_below (is_conflict tx) over.entries) k d l));
      single = spends_once tx.inputs (each_once over.policy.standards tx p.alone);
      coins = All-map (λ (q : OutPoint). IsSome (view_coin over.chain over.entries q)) (λ (i : TxIn). i.prevout) tx.inputs
          (λ k d l. some_from_not_none _ (none_pass (λ (i : TxIn). is_none (view_coin over.chain over.entries i.prevout)) tx.inputs p.coin.1.0 k d l));
      mature = each_mature (tip_of over.chain + 1) 0 (coins_of over.chain over.entries tx.inputs) p.value;
      final = true_from_not _ p.final.0;
      unlocked = true_from_not _ p.lock.0;
      fresh = (or_parts _ _ p.coin.0).1;
    }

pub rules_grant : (attempt : Attempt) (over : Standing) (tx : Tx) → first_failing (admission_rules attempt over tx) ≡ None → IsGrantable over tx
rules_grant attempt over tx h = live attempt over tx (passes attempt over tx h)

-- ---- value

pub granted : (found : Option Denial) (made grant : Grant) → denied_or found made ≡ Ok grant → (found ≡ None) × (made ≡ grant)
granted None made grant h = (λ _. None, cc)
granted (Some denial) made grant h = cc

balanced : (paid_in paid_out : ℕ) → NoneFails (balance_rules paid_in paid_out) → (paid_in ≡ paid_out + (paid_in - paid_out)) × (paid_in - paid_out ≤ max_money)
unfolding balance_rules
balanced paid_in paid_out h = (sym (add-sub_of_le (ltb-false _ _ h.0)), ltb-false _ _ h.1.0)

conserved : (attempt : Attempt) (over : Standing) (tx : Tx) → Passes attempt over tx → Conserves over tx (grant_of attempt over tx)
unfolding grant_of
conserved attempt over tx p =
    let both = balanced (coins_value (coins_of over.chain over.entries tx.inputs)) (outputs_value tx) p.balance in
    record { balanced = both.0; money = both.1 }

-- both of two rules pass, in either order
either_order : (b : Bool) (first second : Rule Denial) → NoneFails (if b then first ∷ second ∷ [] else second ∷ first ∷ []) → (first.1 ≡ false) × (second.1 ≡ false)
either_order true first second h = (h.0, h.1.0)
either_order false first second h = (h.1.0, h.0)

paid : (policy : Policy) (tx : Tx) (floor fee vsize : ℕ) → NoneFails (payment_rules First policy tx floor fee vsize) → (required_fee (feerate_by policy floor) vsize ≤ fee) × (required_fee (relay_feerate policy) vsize ≤ fee)
unfolding fee_rules
paid policy tx floor fee vsize h =
    let both = either_order (is_relay_fee_first policy tx) (relay_rule policy fee vsize) (floor_rule policy floor fee vsize) h in
    (ltb-false _ _ both.1, ltb-false _ _ both.0)

pays : (over : Standing) (tx : Tx) → Passes First over tx → PaysItsSize over (grant_of First over tx)
unfolding grant_of
pays over tx p = let both = paid over.policy tx over.floor _ _ p.payment in record { relay = both.1; pool = both.0 }

-- ---- sizes

quarter : (weight counts : ℕ) → 1 ≤ weight → weight ≤ 400000 → counts ≤ 400000 → (1 ≤ (max weight counts + 3) / 4) × ((max weight counts + 3) / 4 ≤ 10000000)
quarter weight counts some few low = (omega arith, omega arith)

pub hundred : (weight counts : ℕ) → weight ≤ 400000 → counts ≤ 400000 → (max weight counts + 3) / 4 ≤ 100000
hundred weight counts few low = omega arith

pub sized : (standards : Standards) (tx : Tx) → NoneFails (alone_rules standards tx) → (1 ≤ weight_of tx) × (weight_of tx ≤ 400000)
unfolding alone_rules form_rules
sized standards tx h =
    let rest = (none_fails-append (version_rules standards.truc tx) _ (none_fails-append (transaction_rules tx) _ h).1).1 in
    let form = (none_fails-append (form_rules tx) (output_rules standards tx) rest).0 in
    (positive tx, ltb-false _ _ form.0)

cheap : (attempt : Attempt) (over : Standing) (tx : Tx) → Passes attempt over tx → sigop_cost (reported tx.inputs (coins_of over.chain over.entries tx.inputs)) tx.outputs ≤ 16000
unfolding report_rules
cheap attempt over tx p = ltb-false _ _ p.report.1.1.1.0

-- what its signature operations count for
counts : (attempt : Attempt) (over : Standing) (tx : Tx) → IsPolicy over.policy → Passes attempt over tx → over.policy.sigop_size * sigop_cost (reported tx.inputs (coins_of over.chain over.entries tx.inputs)) tx.outputs ≤ 400000
counts attempt over tx bounds p = counted over.policy.sigop_size (sigop_cost (reported tx.inputs (coins_of over.chain over.entries tx.inputs)) tx.outputs) bounds.sigop_size_most (cheap attempt over tx p)

held : (attempt : Attempt) (over : Standing) (tx : Tx) → IsPolicy over.policy → Passes attempt over tx → FitsEntry (grant_of attempt over tx).fee (grant_of attempt over tx).vsize
unfolding grant_of
held attempt over tx bounds p =
    let size = sized over.policy.standards tx p.alone in
    let both = quarter (weight_of tx) (over.policy.sigop_size * sigop_cost (reported tx.inputs (coins_of over.chain over.entries tx.inputs)) tx.outputs) size.0 size.1 (counts attempt over tx bounds p) in
    record { fee_in_range = (balanced (coins_value (coins_of over.chain over.entries tx.inputs)) (outputs_value tx) p.balance).1; some = both.0; few = both.1 }

-- a quarter of the weight, or of what the cost weighs
pub small : (attempt : Attempt) (over : Standing) (tx : Tx) → IsPolicy over.policy → Passes attempt over tx → (grant_of attempt over tx).vsize ≤ 100000
unfolding grant_of
small attempt over tx bounds p =
    hundred (weight_of tx) (over.policy.sigop_size * sigop_cost (reported tx.inputs (coins_of over.chain over.entries tx.inputs)) tx.outputs) (sized over.policy.standards tx p.alone).1 (counts attempt over tx bounds p)

fits_by : (found : Option Denial) (grant : Grant) → (found ≡ None → FitsEntry grant.fee grant.vsize) → FitsAnEntry (denied_or found grant)
fits_by None grant h = h refl
fits_by (Some denial) grant h = tt

-- ---- of decisions

pub decided_live : (attempt : Attempt) (over : Standing) (tx : Tx) (grant : Grant) → decision_of attempt over (Some tx) ≡ Ok grant → IsGrantable over tx
unfolding decision_of
decided_live attempt over tx grant h = rules_grant attempt over tx (granted (first_failing (admission_rules attempt over tx)) (grant_of attempt over tx) grant h).0

pub decided_conserve : (attempt : Attempt) (over : Standing) (tx : Tx) (grant : Grant) → decision_of attempt over (Some tx) ≡ Ok grant → Conserves over tx grant
unfolding decision_of
decided_conserve attempt over tx grant h =
    let both = granted (first_failing (admission_rules attempt over tx)) (grant_of attempt over tx) grant h in
    subst (Conserves over tx) both.1 (conserved attempt over tx (passes attempt over tx both.0))

pub decided_small : (attempt : Attempt) (over : Standing) (tx : Tx) (grant : Grant) → IsPolicy over.policy → decision_of attempt over (Some tx) ≡ Ok grant → grant.vsize ≤ 100000
unfolding decision_of
decided_small attempt over tx grant bounds h =
    let both = granted (first_failing (admission_rules attempt over tx)) (grant_of attempt over tx) grant h in
    subst (λ (g : Grant). g.vsize ≤ 100000) both.1 (small attempt over tx bounds (passes attempt over tx both.0))

pub decided_pay : (over : Standing) (tx : Tx) (grant : Grant) → decision_of First over (Some tx) ≡ Ok grant → PaysItsSize over grant
unfolding decision_of
decided_pay over tx grant h =
    let both = granted (first_failing (admission_rules First over tx)) (grant_of First over tx) grant h in
    subst (PaysItsSize over) both.1 (pays over tx (passes First over tx both.0))

pub decided_fit : (attempt : Attempt) (over : Standing) (tx : Option Tx) → IsPolicy over.policy → FitsAnEntry (decision_of attempt over tx)
unfolding decision_of
decided_fit attempt over None bounds = tt
decided_fit attempt over (Some tx) bounds = fits_by (first_failing (admission_rules attempt over tx)) (grant_of attempt over tx) (λ h. held attempt over tx bounds (passes attempt over tx h))

-- ---- of what a call answers

pub found_live : (attempt : Attempt) (over : Standing) (tx : Option Tx) (decision : Result Grant Denial) → decision ≡ decision_of attempt over tx → OnOk decision (IfSome tx (IsGrantable over))
found_live attempt over None (Ok grant) h = tt
found_live attempt over (Some tx) (Ok grant) h = decided_live attempt over tx grant (sym h)
found_live attempt over tx (Err denial) h = tt

pub found_fit : (attempt : Attempt) (over : Standing) (tx : Option Tx) → IsPolicy over.policy → (decision : Result Grant Denial) → decision ≡ decision_of attempt over tx → FitsAnEntry decision
found_fit attempt over tx bounds decision h = subst FitsAnEntry (sym h) (decided_fit attempt over tx bounds)

-- no entry has one of the ids of what is granted
pub none_found : {X : Type 0} (o : Option X) → is_some o ≡ false → o ≡ None
none_found None h = refl
none_found (Some x) h = cc

pub granted_absent : (attempt : Attempt) (over : Standing) (tx : Tx) (grant : Grant) → Ok grant ≡ decision_of attempt over (Some tx) → (entry_by_txid over.entries (txid_of tx) ≡ None) × (entry_by_wtxid over.entries (wtxid_of tx) ≡ None)
unfolding decision_of pool_rules
granted_absent attempt over tx grant h =
    let pool = (passes attempt over tx (granted (first_failing (admission_rules attempt over tx)) (grant_of attempt over tx) grant (sym h)).0).pool in
    (none_found (entry_by_txid over.entries (txid_of tx)) pool.1.0, none_found (entry_by_wtxid over.entries (wtxid_of tx)) pool.0)

-- where the rules beside the entries pass, none has its txid
pub unpooled_id : (policy : Policy) (entries : List Admitted) (tx : Tx) → first_failing (pool_rules policy entries tx) ≡ None → entry_by_txid entries (txid_of tx) ≡ None
unfolding pool_rules
unpooled_id policy entries tx h =
    let none : NoneFails (pool_rules policy entries tx) = none_fails (pool_rules policy entries tx) h in
    none_found (entry_by_txid entries (txid_of tx)) none.1.0

-- where the rules on it alone pass, it is no larger than an entry may be
pub fits_in : (standards : Standards) (tx : Tx) (sigop_size cost : ℕ) → sigop_size ≤ 25 → cost ≤ 16000 → first_failing (alone_rules standards tx) ≡ None → vsize_of sigop_size cost tx ≤ 10000000
fits_in standards tx sigop_size cost few low h =
    let size = sized standards tx (none_fails (alone_rules standards tx) h) in
    (quarter (weight_of tx) (sigop_size * cost) size.0 size.1 (counted sigop_size cost few low)).1

-- where nothing was read
pub undecoded : (attempt : Attempt) (over : Standing) (tx : Option Tx) → tx ≡ None → Err Decode ≡ decision_of attempt over tx
unfolding decision_of
undecoded attempt over tx none = sym (ap (decision_of attempt over) none)

pub answers_live : (attempt : Attempt) (over : Standing) (tx : Option Tx) (r : Result (Result Grant Denial) Memory) → IfOk r (λ decision. decision ≡ decision_of attempt over tx) → IfOk r (λ decision. OnOk decision (IfSome tx (IsGrantable over)))
answers_live attempt over tx (Ok decision) h = found_live attempt over tx decision h
answers_live attempt over tx (Err e) h = tt

pub answers_fit : (attempt : Attempt) (over : Standing) (tx : Option Tx) → IsPolicy over.policy → (r : Result (Result Grant Denial) Memory) → IfOk r (λ decision. decision ≡ decision_of attempt over tx) → IfOk r FitsAnEntry
answers_fit attempt over tx bounds (Ok decision) h = found_fit attempt over tx bounds decision h
answers_fit attempt over tx bounds (Err e) h = tt
