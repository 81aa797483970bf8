-- Where a rule denies, its figures decide.
use Rattle.std.proofs.Common.{◌≡◌, ◌<◌, ◌≤◌, ◌+◌, ◌*◌, ◌++◌, ◌∷◌, [], ℕ, Bool, true, false, not, ◌&&◌, List, Option, Some, None, refl, ap, subst, true≢false, arith}
use Rattle.std.specs.Prelude.{◌-◌, nat_le, nat_lt, if◌then◌else◌, IfSome, Result, Ok, Err, is_none, is_some, length}
use Rattle.std.specs.List.{flat_map, list_any}
use Rattle.std.specs.Option.{option_or}
use Rattle.std.proofs.lemmas.Bool.{false≢true, or_parts}
use Rattle.std.proofs.lemmas.Bool.Decides.{nat_tests}
use Rattle.std.proofs.Math.Nat.{le_refl, le-max_left}
use Rattle.gate_bytes.specs.Order.{Rule, first_failing}
use Rattle.gate_tx.specs.declared.Coin.{Coin}
use Rattle.gate_tx.specs.declared.TxIn.{TxIn}
use Rattle.gate_tx.specs.declared.TxOut.{TxOut}
use Rattle.gate_tx.specs.Coins.{spends}
use Rattle.gate_tx.specs.Ids.{txid_of, wtxid_of}
use Rattle.gate_tx.specs.Money.{amount_or_zero}
use Rattle.gate_tx.specs.Tx.{Tx}
use Rattle.gate_script.specs.declared.Template.{Template}
use Rattle.gate_script.specs.declared.Template.TheVariants.{NullData, Multisig, Nonstandard}
use Rattle.gate_script.specs.Templates.{template_of}
use Rattle.gate_inputs.specs.declared.Answers.{Answers}
use Rattle.gate_standard.specs.Amounts.{required_fee, feerate}
use Rattle.gate_standard.specs.declared.Feerate.{Feerate}
use Rattle.gate_standard.specs.Outputs.{carries_data, dust_threshold_of, is_below, is_dust}
use Rattle.gate_standard.specs.Rules.{has_ephemeral_dust, left_behind, rules_of_input, rules_of_output, rules_of_outputs, output_value_rules, transaction_rules, version_rules, form_rules, output_rules}
use Rattle.gate_rules.specs.declared.Denial.{Denial}
use Rattle.gate_submission.specs.Alone.{alone_rules}
use Rattle.gate_chain.specs.Times.{tip_of, mtp_of}
use Rattle.gate_locks.specs.Finality.{is_final_at, threshold_of}
use Rattle.gate_locks.specs.Locks.{is_by_time, is_disabled, median_at, span_of}
use Rattle.gate_pool.specs.Pool.{Admitted, entry_by_txid, spender_of, size_of}
use Rattle.gate_pool.specs.Family.{ancestors_above, fees_of}
use Rattle.gate_pool.specs.Counting.{is_counted, counted_of, replaced_beside}
use Rattle.gate_rbf.specs.Replacing.{is_replaceable, replacement_rules, rules_beside, sharers}
use Rattle.gate_admit.specs.declared.attempt.Attempt.TheVariants.{First}
use Rattle.gate_admit.specs.declared.grant.Grant.{Grant}
use Rattle.gate_admit.specs.Coins.{coins_of, view_coin}
use Rattle.gate_admit.specs.Limits.{has_second_try, limit_rules}
use Rattle.gate_admit.specs.Policies.{Policy, feerate_by, incremental_feerate, most_ancestors, relay_feerate}
use Rattle.gate_admit.specs.Reports.{has_relayed_witness, is_relayed, legacy_sigops, reported, report_rules, vsize_of, verdict_rules, rules_of_verdict}
use Rattle.gate_admit.specs.Rules.{final_rules, pool_rules, coin_rules, lock_rules, coin_value_rules, balance_rules, fee_rules, floor_rule, is_relay_fee_first, payment_rules, relay_rule, admission_rules, coins_value, outputs_value, grant_of, denied_or, decision_of, is_immature}
use Rattle.gate_admit.specs.Standing.{Standing}
use Rattle.gate_admit.specs.Sweeping.{sweep_rules}
use Rattle.gate_admit.specs.Verdicts.{verdict_of}
use Rattle.gate_figures.specs.declared.figures.Figures.{Figures}
use Rattle.gate_figures.specs.declared.figures.Figures.TheVariants.{Ancestors, AncestorsSized, BareMultisig, DataLeft, DataScript, Dust, DustPays, HeightLocked, Input, LegacySigops, NoCoin, NonstandardSpend, NonstandardWitness, Outpaid, Script, Spent, TimeLocked, Unswept, Young}
use Rattle.gate_figures.specs.Figures.{allowed_ancestors, coinless, crowded, crowded_past, data_past, data_past_total, doubted, dust, dust_paying, fee_at, figures_of, height_locked, locked, locked_by, locked_coin, many_legacy, nonstandard, nonstandard_inputs, nonstandard_spend, nonstandard_witness, script_figures, time_locked, non_signalling, non_signalling_by, is_good, outpaid, outpaid_at, outpaid_by, outpaid_sibling, paying_figures, pays, pays_above, sibling_in, sized, unswept, unswept_of, unswept_output, vsize_at, cost_at, young, young_by}
use Rattle.gate_figures.specs.Laws.{Decide, FiguresDecide}

pub lt_from : (m n : ℕ) → nat_lt m n ≡ true → m < n
lt_from m n h = grind (arith, nat_tests)

le_from : (m n : ℕ) → nat_lt m n ≡ false → n ≤ m
le_from m n h = grind (arith, nat_tests)

-- ---- of lists of rules

-- a rule that fails has figures that decide, or none
abbrev pub Shows : Standing → Tx → Rule Denial → Type 0
Shows over tx rule = rule.1 ≡ true → IfSome (figures_of over tx rule.0) (Decide over)

abbrev pub AllShow : Standing → Tx → List (Rule Denial) → Type 0
AllShow over tx [] = Unit {0}
AllShow over tx (rule ∷ rules) = Shows over tx rule × AllShow over tx rules

pub both_show : (over : Standing) (tx : Tx) (xs ys : List (Rule Denial)) → AllShow over tx xs → AllShow over tx ys → AllShow over tx (xs ++ ys)
both_show over tx [] ys a b = b
both_show over tx (x ∷ xs) ys a b = (a.0, both_show over tx xs ys a.1 b)

each_shows : {X : Type 0} (over : Standing) (tx : Tx) (rules : X → List (Rule Denial)) → ((x : X) → AllShow over tx (rules x)) → (xs : List X) → AllShow over tx (flat_map rules xs)
each_shows over tx rules all [] = tt
each_shows over tx rules all (x ∷ xs) = both_show over tx (rules x) (flat_map rules xs) (all x) (each_shows over tx rules all xs)

found_by : (over : Standing) (tx : Tx) (said denial : Denial) (fails : Bool) (rest : Option Denial) → Shows over tx (said, fails)
    → (rest ≡ Some denial → IfSome (figures_of over tx denial) (Decide over)) → (if fails then Some said else rest) ≡ Some denial
    → IfSome (figures_of over tx denial) (Decide over)
found_by over tx said denial true rest shows later h = subst (λ (o : Option Denial). IfSome o (λ d. IfSome (figures_of over tx d) (Decide over))) h (shows refl)
found_by over tx said denial false rest shows later h = later h

pub found : (over : Standing) (tx : Tx) (denial : Denial) (rules : List (Rule Denial)) → AllShow over tx rules → first_failing rules ≡ Some denial
    → IfSome (figures_of over tx denial) (Decide over)
found over tx denial [] all h = absurd (false≢true (ap is_some h))
found over tx denial (rule ∷ rules) all h = found_by over tx rule.0 denial rule.1 (first_failing rules) all.0 (found over tx denial rules all.1) h

-- ---- of figures that are looked for

one_or : (over : Standing) (one rest : Option Figures) → IfSome one (Decide over) → IfSome rest (Decide over) → IfSome (option_or one rest) (Decide over)
one_or over None rest a b = b
one_or over (Some figures) rest a b = a

second : (a b : Bool) → (a && b) ≡ true → b ≡ true
second true b h = h
second false b h = absurd (false≢true h)

below : (rate : Feerate) (o : TxOut) → is_dust rate o ≡ true → is_below o.value (dust_threshold_of rate o) ≡ true
unfolding is_dust
below rate o h = second (not (carries_data o)) (is_below o.value (dust_threshold_of rate o)) h

dust_decides : (over : Standing) (rate : Feerate) (index : ℕ) (outputs : List TxOut) → IfSome (dust rate index outputs) (Decide over)
dust_decides over rate index [] = tt
dust_decides over rate index (o ∷ outputs) = go (dust_decides over rate (index + 1) outputs) (is_dust rate o) refl
  where
    go : IfSome (dust rate (index + 1) outputs) (Decide over) → (b : Bool) → is_dust rate o ≡ b → IfSome (if b then Some (Dust index o.value (dust_threshold_of rate o)) else dust rate (index + 1) outputs) (Decide over)
    go later true e = below rate o e
    go later false e = later

paying_decides : (over : Standing) (rate : Feerate) (fee index : ℕ) (outputs : List TxOut) → 0 < fee → IfSome (dust_paying rate fee index outputs) (Decide over)
paying_decides over rate fee index [] paid = tt
paying_decides over rate fee index (o ∷ outputs) paid = go (paying_decides over rate fee (index + 1) outputs paid) (is_dust rate o)
  where
    go : IfSome (dust_paying rate fee (index + 1) outputs) (Decide over) → (b : Bool) → IfSome (if b then Some (DustPays index fee) else dust_paying rate fee (index + 1) outputs) (Decide over)
    go later true = paid
    go later false = later

output_decides : (over : Standing) (rate : Feerate) (inputs : List TxIn) (txid : List ℕ) (index : ℕ) (outputs : List TxOut) → IfSome (unswept_output rate inputs txid index outputs) (Decide over)
output_decides over rate inputs txid index [] = tt
output_decides over rate inputs txid index (o ∷ outputs) = go (output_decides over rate inputs txid (index + 1) outputs) (is_dust rate o && not (spends inputs (record { txid = txid; index = index })))
  where
    go : IfSome (unswept_output rate inputs txid (index + 1) outputs) (Decide over) → (b : Bool)
        → IfSome (if b then Some (Unswept (record { txid = txid; index = index })) else unswept_output rate inputs txid (index + 1) outputs) (Decide over)
    go later true = tt
    go later false = later

parent_decides : (over : Standing) (rate : Feerate) (inputs : List TxIn) (txid : List ℕ) (parent : Option Admitted) → IfSome (unswept_of rate inputs txid parent) (Decide over)
parent_decides over rate inputs txid None = tt
parent_decides over rate inputs txid (Some e) = output_decides over rate inputs txid 0 e.tx.outputs

unswept_decides : (over : Standing) (rate : Feerate) (all inputs : List TxIn) → IfSome (unswept rate over.entries all inputs) (Decide over)
unswept_decides over rate all [] = tt
unswept_decides over rate all (i ∷ inputs) =
    one_or over (unswept_of rate all i.prevout.txid (entry_by_txid over.entries i.prevout.txid)) (unswept rate over.entries all inputs)
    (parent_decides over rate all i.prevout.txid (entry_by_txid over.entries i.prevout.txid)) (unswept_decides over rate all inputs)

gt_from : (m n : ℕ) → nat_le m n ≡ false → n < m
gt_from m n h = grind (arith, nat_tests)

script_decides : (over : Standing) (index : ℕ) (template : Template) (size : ℕ) → IfSome (script_figures over.policy.standards index template size) (Decide over)
script_decides over index Nonstandard size = tt
script_decides over index (Multisig required keys) size = go over.policy.standards.bare_multisig (nat_le 1 keys && nat_le keys 3) refl
  where
    go : (permits few : Bool) → over.policy.standards.bare_multisig ≡ permits → IfSome (if permits then if few then None else Some (Script index) else Some (BareMultisig index)) (Decide over)
    go true true e = tt
    go true false e = tt
    go false few e = e
script_decides over index NullData size = go (nat_le size over.policy.standards.data_size) refl
  where
    go : (b : Bool) → nat_le size over.policy.standards.data_size ≡ b → IfSome (if b then None else Some (DataScript index size over.policy.standards.data_size)) (Decide over)
    go true e = tt
    go false e = (le_refl over.policy.standards.data_size, gt_from size over.policy.standards.data_size e)
script_decides over index other size = tt

nonstandard_decides : (over : Standing) (index : ℕ) (outputs : List TxOut) → IfSome (nonstandard over.policy.standards index outputs) (Decide over)
nonstandard_decides over index [] = tt
nonstandard_decides over index (o ∷ outputs) =
    one_or over (script_figures over.policy.standards index (template_of o.script) (length o.script)) (nonstandard over.policy.standards (index + 1) outputs)
    (script_decides over index (template_of o.script) (length o.script)) (nonstandard_decides over (index + 1) outputs)

none_of : {X : Type 0} (o : Option X) → is_none o ≡ true → o ≡ None
none_of None h = refl
none_of (Some x) h = absurd (false≢true h)

pub coinless_decides : (over : Standing) (index : ℕ) (inputs : List TxIn) → IfSome (coinless over.chain over.entries index inputs) (Decide over)
coinless_decides over index [] = tt
coinless_decides over index (i ∷ inputs) = go (coinless_decides over (index + 1) inputs) (is_none (view_coin over.chain over.entries i.prevout)) refl
  where
    go : IfSome (coinless over.chain over.entries (index + 1) inputs) (Decide over) → (b : Bool) → is_none (view_coin over.chain over.entries i.prevout) ≡ b
        → IfSome (if b then Some (NoCoin index i.prevout) else coinless over.chain over.entries (index + 1) inputs) (Decide over)
    go later true e = none_of (view_coin over.chain over.entries i.prevout) e
    go later false e = later

soon : (next_height : ℕ) (coin : Coin) → is_immature next_height coin ≡ true → next_height - coin.height < 100
soon next_height coin h = lt_from (next_height - coin.height) 100 (second coin.coinbase (nat_lt (next_height - coin.height) 100) h)

young_by_decides : (over : Standing) (next_height index : ℕ) (o : Option Coin) → IfSome (young_by next_height index o) (Decide over)
young_by_decides over next_height index None = tt
young_by_decides over next_height index (Some coin) = go (is_immature next_height coin) refl
  where
    go : (b : Bool) → is_immature next_height coin ≡ b → IfSome (if b then Some (Young index coin.height next_height) else None) (Decide over)
    go true e = soon next_height coin e
    go false e = tt

young_decides : (over : Standing) (index : ℕ) (inputs : List TxIn) → IfSome (young over.chain over.entries index inputs) (Decide over)
young_decides over index [] = tt
young_decides over index (i ∷ inputs) =
    one_or over (young_by (tip_of over.chain + 1) index (view_coin over.chain over.entries i.prevout)) (young over.chain over.entries (index + 1) inputs)
    (young_by_decides over (tip_of over.chain + 1) index (view_coin over.chain over.entries i.prevout)) (young_decides over (index + 1) inputs)

more_than : (n m : ℕ) → nat_le n m ≡ false → 0 < n - m
more_than n m h = let more = gt_from n m h in omega (arith, more)

height_locked_decides : (over : Standing) (next_height index span height : ℕ) → IfSome (height_locked next_height index span height) (Decide over)
height_locked_decides over next_height index span height = go (nat_le (height + span) next_height) refl
  where
    go : (b : Bool) → nat_le (height + span) next_height ≡ b → IfSome (if b then None else Some (HeightLocked index (height + span - next_height))) (Decide over)
    go true e = tt
    go false e = more_than (height + span) next_height e

time_locked_decides : (over : Standing) (now index wait : ℕ) (start : Option ℕ) → IfSome (time_locked now index wait start) (Decide over)
time_locked_decides over now index wait None = tt
time_locked_decides over now index wait (Some start) = go (nat_le (start + wait) now) refl
  where
    go : (b : Bool) → nat_le (start + wait) now ≡ b → IfSome (if b then None else Some (TimeLocked index (start + wait - now))) (Decide over)
    go true e = tt
    go false e = more_than (start + wait) now e

locked_by_decides : (over : Standing) (index sequence height : ℕ) → IfSome (locked_by over.chain index sequence height) (Decide over)
unfolding locked_by
locked_by_decides over index sequence height = go (is_disabled sequence) (is_by_time sequence)
  where
    go : (disabled timed : Bool) → IfSome (if disabled then None
        else if timed then time_locked (median_at over.chain (tip_of over.chain)) index (512 * span_of sequence) (mtp_of over.chain (height - 1))
        else height_locked (tip_of over.chain + 1) index (span_of sequence) height) (Decide over)
    go true timed = tt
    go false true = time_locked_decides over (median_at over.chain (tip_of over.chain)) index (512 * span_of sequence) (mtp_of over.chain (height - 1))
    go false false = height_locked_decides over (tip_of over.chain + 1) index (span_of sequence) height

locked_coin_decides : (over : Standing) (index sequence : ℕ) (o : Option Coin) → IfSome (locked_coin over.chain index sequence o) (Decide over)
locked_coin_decides over index sequence None = tt
locked_coin_decides over index sequence (Some coin) = locked_by_decides over index sequence coin.height

locked_decides : (over : Standing) (index : ℕ) (inputs : List TxIn) → IfSome (locked over.chain over.entries index inputs) (Decide over)
locked_decides over index [] = tt
locked_decides over index (i ∷ inputs) =
    one_or over (locked_coin over.chain index i.sequence (view_coin over.chain over.entries i.prevout)) (locked over.chain over.entries (index + 1) inputs)
    (locked_coin_decides over index i.sequence (view_coin over.chain over.entries i.prevout)) (locked_decides over (index + 1) inputs)

spend_decides : (over : Standing) (anchors : Bool) (index : ℕ) (answers : List Answers) → IfSome (nonstandard_spend anchors index answers) (Decide over)
spend_decides over anchors index [] = tt
spend_decides over anchors index (a ∷ answers) = go (spend_decides over anchors (index + 1) answers) (is_relayed anchors a)
  where
    go : IfSome (nonstandard_spend anchors (index + 1) answers) (Decide over) → (b : Bool) → IfSome (if b then nonstandard_spend anchors (index + 1) answers else Some (NonstandardSpend index)) (Decide over)
    go later true = later
    go later false = tt

legacy_decides : (over : Standing) (count : ℕ) → IfSome (many_legacy over.policy.legacy_sigops count) (Decide over)
legacy_decides over count = go over.policy.legacy_sigops refl
  where
    test : (most : ℕ) → over.policy.legacy_sigops ≡ Some most → (b : Bool) → nat_le count most ≡ b → IfSome (if b then None else Some (LegacySigops count most)) (Decide over)
    test most is true h = tt
    test most is false h = (is, gt_from count most h)

    go : (limit : Option ℕ) → over.policy.legacy_sigops ≡ limit → IfSome (many_legacy limit count) (Decide over)
    go None is = tt
    go (Some most) is = test most is (nat_le count most) refl

inputs_decide : (over : Standing) (answers : List Answers) → IfSome (nonstandard_inputs over.policy answers) (Decide over)
inputs_decide over answers =
    one_or over (nonstandard_spend over.policy.anchors 0 answers) (many_legacy over.policy.legacy_sigops (legacy_sigops answers)) (spend_decides over over.policy.anchors 0 answers) (legacy_decides over (legacy_sigops answers))

data_here : (over : Standing) (left index size : ℕ) (rest skipped : Option Figures) → IfSome rest (Decide over) → IfSome skipped (Decide over)
    → (carries past : Bool) → nat_lt left size ≡ past → IfSome (if carries then if past then Some (DataLeft index size left) else rest else skipped) (Decide over)
data_here over left index size rest skipped later beside true true h = lt_from left size h
data_here over left index size rest skipped later beside true false h = later
data_here over left index size rest skipped later beside false past h = beside

data_decides : (over : Standing) (left index : ℕ) (outputs : List TxOut) → IfSome (data_past left index outputs) (Decide over)
data_decides over left index [] = tt
data_decides over left index (o ∷ outputs) =
    data_here over left index (length o.script) (data_past (left - length o.script) (index + 1) outputs) (data_past left (index + 1) outputs)
    (data_decides over (left - length o.script) (index + 1) outputs) (data_decides over left (index + 1) outputs) (carries_data o) (nat_lt left (length o.script)) refl

total_decides : (over : Standing) (total : Option ℕ) (outputs : List TxOut) → IfSome (data_past_total total outputs) (Decide over)
total_decides over None outputs = tt
total_decides over (Some total) outputs = data_decides over total 0 outputs

witness_decides : (over : Standing) (anchors : Bool) (index : ℕ) (answers : List Answers) → IfSome (nonstandard_witness anchors index answers) (Decide over)
witness_decides over anchors index [] = tt
witness_decides over anchors index (a ∷ answers) = go (witness_decides over anchors (index + 1) answers) (has_relayed_witness anchors a)
  where
    go : IfSome (nonstandard_witness anchors (index + 1) answers) (Decide over) → (b : Bool) → IfSome (if b then nonstandard_witness anchors (index + 1) answers else Some (NonstandardWitness index)) (Decide over)
    go later true = later
    go later false = tt

non_signalling_by_decides : (over : Standing) (by_version : Bool) (index : ℕ) (o : Option Admitted) → over.policy.full_rbf ≡ false → IfSome (non_signalling_by by_version index o) (Decide over)
non_signalling_by_decides over by_version index None asked = tt
non_signalling_by_decides over by_version index (Some e) asked = go (is_replaceable by_version e.tx)
  where
    go : (b : Bool) → IfSome (if b then None else Some (Spent index (txid_of e.tx))) (Decide over)
    go true = tt
    go false = asked

non_signalling_decides : (over : Standing) (by_version : Bool) (index : ℕ) (inputs : List TxIn) → over.policy.full_rbf ≡ false → IfSome (non_signalling by_version over.entries index inputs) (Decide over)
non_signalling_decides over by_version index [] asked = tt
non_signalling_decides over by_version index (i ∷ inputs) asked =
    one_or over (non_signalling_by by_version index (spender_of over.entries i.prevout)) (non_signalling by_version over.entries (index + 1) inputs)
    (non_signalling_by_decides over by_version index (spender_of over.entries i.prevout) asked) (non_signalling_decides over by_version (index + 1) inputs asked)

-- where an entry is asked for a signal, there is no full replacement
asks : (full other : Bool) → (not full && other) ≡ true → full ≡ false
asks true other h = absurd (false≢true h)
asks false other h = refl

outpaid_by_decides : (over : Standing) (rate : ℕ) (o : Option Admitted) → IfSome (outpaid_by rate o) (Decide over)
outpaid_by_decides over rate None = tt
outpaid_by_decides over rate (Some e) = go (nat_lt (feerate e.fee e.vsize) rate) refl
  where
    go : (b : Bool) → nat_lt (feerate e.fee e.vsize) rate ≡ b → IfSome (if b then None else Some (Outpaid rate (feerate e.fee e.vsize) (txid_of e.tx))) (Decide over)
    go true h = tt
    go false h = le_from (feerate e.fee e.vsize) rate h

outpaid_decides : (over : Standing) (rate : ℕ) (inputs : List TxIn) → IfSome (outpaid over.entries rate inputs) (Decide over)
outpaid_decides over rate [] = tt
outpaid_decides over rate (i ∷ inputs) =
    one_or over (outpaid_by rate (spender_of over.entries i.prevout)) (outpaid over.entries rate inputs)
    (outpaid_by_decides over rate (spender_of over.entries i.prevout)) (outpaid_decides over rate inputs)

outpaid_sibling_decides : (over : Standing) (rate : ℕ) (sibling : Option (List ℕ)) → IfSome (outpaid_sibling over.entries rate sibling) (Decide over)
outpaid_sibling_decides over rate None = tt
outpaid_sibling_decides over rate (Some txid) = outpaid_by_decides over rate (entry_by_txid over.entries txid)

outpaid_at_decides : (over : Standing) (sibling : Option (List ℕ)) (rate : Option ℕ) (inputs : List TxIn) → IfSome (outpaid_at over.entries sibling rate inputs) (Decide over)
unfolding outpaid_at
outpaid_at_decides over sibling None inputs = tt
outpaid_at_decides over sibling (Some rate) inputs = one_or over (outpaid over.entries rate inputs) (outpaid_sibling over.entries rate sibling) (outpaid_decides over rate inputs) (outpaid_sibling_decides over rate sibling)

-- a transaction of any size may have as many ancestors as the policy says
allows : (policy : Policy) (tx : Tx) (vsize : ℕ) → policy.ancestors ≤ allowed_ancestors policy tx vsize
allows policy tx vsize = go (has_second_try tx vsize)
  where
    go : (b : Bool) → policy.ancestors ≤ (if b then most_ancestors policy else policy.ancestors)
    go true = le-max_left policy.ancestors 2
    go false = le_refl policy.ancestors

pub past_decides : (over : Standing) (most : ℕ) (above : List Admitted) (vsize : ℕ) → over.policy.ancestors ≤ most → IfSome (crowded_past over.policy most above vsize) (Decide over)
past_decides over most above vsize allowed = go (nat_lt most (length above + 1)) (nat_lt over.policy.ancestors_size (size_of above + vsize)) refl refl
  where
    go : (a b : Bool) → nat_lt most (length above + 1) ≡ a → nat_lt over.policy.ancestors_size (size_of above + vsize) ≡ b
        → IfSome (if a then Some (Ancestors (length above + 1) most) else if b then Some (AncestorsSized (size_of above + vsize) over.policy.ancestors_size) else None) (Decide over)
    go true b e f = (allowed, lt_from most (length above + 1) e)
    go false true e f = (omega arith, lt_from over.policy.ancestors_size (size_of above + vsize) f)
    go false false e f = tt

pub crowded_decides : (over : Standing) (tx : Tx) (above : List Admitted) (vsize : Option ℕ) → IfSome (crowded over.policy tx above vsize) (Decide over)
crowded_decides over tx above None = tt
crowded_decides over tx above (Some vsize) = past_decides over (allowed_ancestors over.policy tx vsize) above vsize (allows over.policy tx vsize)

doubted_decides : (over : Standing) (wtxid : List ℕ) (index : ℕ) (inputs : List TxIn) → IfSome (doubted over.verdicts wtxid index inputs) (Decide over)
doubted_decides over wtxid index [] = tt
doubted_decides over wtxid index (i ∷ inputs) = go (doubted_decides over wtxid (index + 1) inputs) (is_good (verdict_of over.verdicts wtxid index)) refl
  where
    go : IfSome (doubted over.verdicts wtxid (index + 1) inputs) (Decide over) → (b : Bool) → is_good (verdict_of over.verdicts wtxid index) ≡ b
        → IfSome (if b then doubted over.verdicts wtxid (index + 1) inputs else Some (Input index wtxid)) (Decide over)
    go later true e = later
    go later false e = e

pays_decides : (over : Standing) (tx : Tx) (rate : Feerate) (fee cost : ℕ) → nat_lt fee (required_fee rate (vsize_of over.policy.sigop_size cost tx)) ≡ true → IfSome (pays rate fee (sized over.policy.sigop_size cost tx)) (Decide over)
unfolding pays
pays_decides over tx rate fee cost h = go (nat_lt 16000 cost)
  where
    go : (b : Bool) → IfSome (pays rate fee (if b then None else Some (vsize_of over.policy.sigop_size cost tx))) (Decide over)
    go true = tt
    go false = lt_from fee (required_fee rate (vsize_of over.policy.sigop_size cost tx)) h

above_decides : (over : Standing) (tx : Tx) (gone fee cost : ℕ) → nat_lt (fee - gone) (required_fee (incremental_feerate over.policy) (vsize_of over.policy.sigop_size cost tx)) ≡ true
    → IfSome (pays_above (incremental_feerate over.policy) gone fee (sized over.policy.sigop_size cost tx)) (Decide over)
unfolding pays_above
above_decides over tx gone fee cost h = go (nat_lt 16000 cost)
  where
    go : (b : Bool) → IfSome (pays_above (incremental_feerate over.policy) gone fee (if b then None else Some (vsize_of over.policy.sigop_size cost tx))) (Decide over)
    go true = tt
    go false = lt_from (fee - gone) (required_fee (incremental_feerate over.policy) (vsize_of over.policy.sigop_size cost tx)) h

-- ---- group by group

oversized : (size : ℕ) → nat_lt 4_000_000 (size * 4) ≡ true → 1000000 < size
oversized size h = omega (arith, lt_from 4_000_000 (size * 4) h)

values_show : (over : Standing) (tx : Tx) (sum : ℕ) (outputs : List TxOut) → AllShow over tx (output_value_rules sum outputs)
unfolding figures_of paying_figures
values_show over tx sum [] = tt
values_show over tx sum (o ∷ outputs) = (λ _. tt, (λ _. tt, (λ _. tt, values_show over tx (sum + amount_or_zero o.value) outputs)))

transaction_shows : (over : Standing) (tx : Tx) → AllShow over tx (transaction_rules tx)
unfolding figures_of paying_figures transaction_rules
transaction_shows over tx = (
  λ _. tt,
  (
    λ _. tt,
    (
      λ h. oversized _ h,
      both_show over tx (output_value_rules 0 tx.outputs) _ (values_show over tx 0 tx.outputs) (λ _. tt, (λ _. tt, (λ _. tt, (λ _. tt, tt)))),
    ),
  ),
)

input_shows : (over : Standing) (tx : Tx) (i : TxIn) → AllShow over tx (rules_of_input i)
unfolding figures_of paying_figures
input_shows over tx i = (λ _. tt, (λ _. tt, tt))

output_shows : (over : Standing) (tx : Tx) (left : Option ℕ) (o : TxOut) → AllShow over tx (rules_of_output over.policy.standards left o)
unfolding figures_of paying_figures
output_shows over tx left o = (
  λ _. nonstandard_decides over 0 tx.outputs,
  (λ _. total_decides over over.policy.standards.data_total tx.outputs, (λ _. dust_decides over over.policy.standards.dust_rate 0 tx.outputs, tt)),
)

each_output_shows : (over : Standing) (tx : Tx) (left : Option ℕ) (outputs : List TxOut) → AllShow over tx (rules_of_outputs over.policy.standards left outputs)
each_output_shows over tx left [] = tt
each_output_shows over tx left (o ∷ outputs) =
    let behind = left_behind left (carries_data o) (length o.script) in
    both_show over tx (rules_of_output over.policy.standards left o) (rules_of_outputs over.policy.standards behind outputs) (output_shows over tx left o) (each_output_shows over tx behind outputs)

form_shows : (over : Standing) (tx : Tx) → AllShow over tx (form_rules tx)
unfolding figures_of paying_figures form_rules
form_shows over tx = (λ h. lt_from 400_000 _ h, each_shows over tx rules_of_input (input_shows over tx) tx.inputs)

version_shows : (over : Standing) (tx : Tx) → AllShow over tx (version_rules over.policy.standards.truc tx)
unfolding figures_of paying_figures version_rules
version_shows over tx = (λ _. tt, tt)

outputs_show : (over : Standing) (tx : Tx) → AllShow over tx (output_rules over.policy.standards tx)
unfolding figures_of paying_figures output_rules
outputs_show over tx =
    both_show over tx (rules_of_outputs over.policy.standards over.policy.standards.data_total tx.outputs) _ (each_output_shows over tx over.policy.standards.data_total tx.outputs) (
      λ _. dust_decides over over.policy.standards.dust_rate 0 tx.outputs,
      (λ h. (le_refl over.policy.standards.data_outputs, lt_from over.policy.standards.data_outputs _ h), (λ h. (omega arith, lt_from _ over.policy.standards.least_size h), tt)),
    )

pub alone_shows : (over : Standing) (tx : Tx) → AllShow over tx (alone_rules over.policy.standards tx)
unfolding alone_rules
alone_shows over tx =
    both_show over tx (transaction_rules tx) _ (transaction_shows over tx)
    (both_show over tx (version_rules over.policy.standards.truc tx) _ (version_shows over tx) (both_show over tx (form_rules tx) (output_rules over.policy.standards tx) (form_shows over tx) (outputs_show over tx)))

unfinal : (tx : Tx) (next_height median : ℕ) → not (is_final_at tx next_height median) ≡ true → threshold_of tx.locktime next_height median ≤ tx.locktime
unfolding is_final_at
unfinal tx next_height median h =
    let no = not_true (is_final_at tx next_height median) h in
    le_from tx.locktime (threshold_of tx.locktime next_height median) (or_parts _ _ (or_parts _ _ no).1).0
  where
    not_true : (b : Bool) → not b ≡ true → b ≡ false
    not_true true k = absurd (false≢true k)
    not_true false k = refl

pub final_shows : (over : Standing) (tx : Tx) → AllShow over tx (final_rules over.chain tx)
unfolding figures_of final_rules
final_shows over tx = (λ h. unfinal tx (tip_of over.chain + 1) (median_at over.chain (tip_of over.chain)) h, tt)

pub pool_shows : (over : Standing) (tx : Tx) → AllShow over tx (pool_rules over.policy over.entries tx)
unfolding figures_of paying_figures pool_rules
pool_shows over tx = (λ _. tt, (λ _. tt, (λ h. non_signalling_decides over over.policy.standards.truc 0 tx.inputs (asks over.policy.full_rbf _ h), tt)))

coin_shows : (over : Standing) (tx : Tx) → AllShow over tx (coin_rules over.chain over.entries tx)
unfolding figures_of paying_figures coin_rules
coin_shows over tx = (λ _. tt, (λ _. coinless_decides over 0 tx.inputs, tt))

pub lock_shows : (over : Standing) (tx : Tx) (coins : List Coin) → AllShow over tx (lock_rules over.chain coins tx)
unfolding figures_of paying_figures lock_rules
lock_shows over tx coins = (λ _. locked_decides over 0 tx.inputs, tt)

pub coin_values_show : (over : Standing) (tx : Tx) (next_height sum : ℕ) (coins : List Coin) → AllShow over tx (coin_value_rules next_height sum coins)
unfolding figures_of paying_figures coin_value_rules
coin_values_show over tx next_height sum [] = tt
coin_values_show over tx next_height sum (coin ∷ coins) =
    (λ _. young_decides over 0 tx.inputs, (λ _. tt, coin_values_show over tx next_height (sum + amount_or_zero coin.value) coins))

pub balance_shows : (over : Standing) (tx : Tx) → AllShow over tx (balance_rules (coins_value (coins_of over.chain over.entries tx.inputs)) (outputs_value tx))
unfolding figures_of paying_figures balance_rules
balance_shows over tx = (λ h. lt_from _ _ h, (λ _. tt, tt))

pub reports_show : (over : Standing) (tx : Tx) → AllShow over tx (report_rules over.policy (reported tx.inputs (coins_of over.chain over.entries tx.inputs)) (fee_at over.chain over.entries tx) tx)
unfolding figures_of paying_figures report_rules
reports_show over tx =
    let answers = reported tx.inputs (coins_of over.chain over.entries tx.inputs) in
    let fee = fee_at over.chain over.entries tx in (
      λ _. inputs_decide over answers,
      (
        λ _. witness_decides over over.policy.anchors 0 answers,
        (
          λ h. paying_decides over over.policy.standards.dust_rate fee 0 tx.outputs (lt_from 0 fee (second (has_ephemeral_dust over.policy.standards tx) (nat_lt 0 fee) h)),
          (λ h. lt_from 16000 _ h, tt),
        ),
      ),
    )

pub payment_shows : (over : Standing) (tx : Tx)
    → AllShow over tx (payment_rules First over.policy tx over.floor (fee_at over.chain over.entries tx) (vsize_of over.policy.sigop_size (cost_at over.chain over.entries tx) tx))
unfolding figures_of paying_figures fee_rules
payment_shows over tx = go (is_relay_fee_first over.policy tx)
  where
    fee : ℕ
    fee = fee_at over.chain over.entries tx

    vsize : ℕ
    vsize = vsize_of over.policy.sigop_size (cost_at over.chain over.entries tx) tx

    go : (b : Bool) → AllShow over tx (if b then relay_rule over.policy fee vsize ∷ floor_rule over.policy over.floor fee vsize ∷ [] else floor_rule over.policy over.floor fee vsize ∷ relay_rule over.policy fee vsize ∷ [])
    go true = (
      λ h. pays_decides over tx (relay_feerate over.policy) fee (cost_at over.chain over.entries tx) h,
      (λ h. pays_decides over tx (feerate_by over.policy over.floor) fee (cost_at over.chain over.entries tx) h, tt),
    )
    go false = (
      λ h. pays_decides over tx (feerate_by over.policy over.floor) fee (cost_at over.chain over.entries tx) h,
      (λ h. pays_decides over tx (relay_feerate over.policy) fee (cost_at over.chain over.entries tx) h, tt),
    )

pub limits_show : (over : Standing) (tx : Tx) (vsize : ℕ) → AllShow over tx (limit_rules First over.policy over.entries tx vsize)
unfolding figures_of paying_figures limit_rules
limits_show over tx vsize = (λ _. crowded_decides over tx (ancestors_above over.entries tx.inputs) (vsize_at over.policy.sigop_size over.chain over.entries tx), (λ _. tt, (λ _. tt, tt)))

pub sweep_shows : (over : Standing) (tx : Tx) → AllShow over tx (sweep_rules over.policy.standards over.entries tx)
unfolding figures_of paying_figures sweep_rules
sweep_shows over tx = (λ _. unswept_decides over over.policy.standards.dust_rate tx.inputs tx.inputs, tt)

beside_shows : (over : Standing) (tx : Tx)
    → AllShow over tx (rules_beside (incremental_feerate over.policy) over.entries (counted_of over.entries (sibling_in over tx) tx) (sharers over.policy.parents over.entries (sibling_in over tx) tx) (fees_of (replaced_beside over.entries (sibling_in over tx) tx)) tx (fee_at over.chain over.entries tx) (vsize_of over.policy.sigop_size (cost_at over.chain over.entries tx) tx))
unfolding figures_of paying_figures rules_beside
beside_shows over tx = (
  λ _. outpaid_at_decides over (sibling_in over tx) _ tx.inputs,
  (
    λ h. lt_from 100 _ h,
    (
      λ _. tt,
      (
        λ h. lt_from _ _ h,
        (λ h. above_decides over tx (fees_of (replaced_beside over.entries (sibling_in over tx) tx)) (fee_at over.chain over.entries tx) (cost_at over.chain over.entries tx) h, tt),
      ),
    ),
  ),
)

pub replacement_shows : (over : Standing) (tx : Tx)
    → AllShow over tx (replacement_rules (incremental_feerate over.policy) over.policy.parents over.entries (sibling_in over tx) tx (fee_at over.chain over.entries tx) (vsize_of over.policy.sigop_size (cost_at over.chain over.entries tx) tx))
unfolding replacement_rules
replacement_shows over tx = go (list_any (is_counted (sibling_in over tx) tx) over.entries)
  where
    go : (b : Bool) → AllShow over tx (if b then rules_beside (incremental_feerate over.policy) over.entries (counted_of over.entries (sibling_in over tx) tx) (sharers over.policy.parents over.entries (sibling_in over tx) tx) (fees_of (replaced_beside over.entries (sibling_in over tx) tx)) tx (fee_at over.chain over.entries tx) (vsize_of over.policy.sigop_size (cost_at over.chain over.entries tx) tx) else [])
    go true = beside_shows over tx
    go false = tt

pub verdict_shows : (over : Standing) (tx : Tx) (index : ℕ) (inputs : List TxIn) → AllShow over tx (verdict_rules over.verdicts (wtxid_of tx) index inputs)
unfolding figures_of verdict_rules rules_of_verdict
verdict_shows over tx index [] = tt
verdict_shows over tx index (i ∷ inputs) = (
  λ _. doubted_decides over (wtxid_of tx) 0 tx.inputs,
  (
    λ _. doubted_decides over (wtxid_of tx) 0 tx.inputs,
    (λ _. doubted_decides over (wtxid_of tx) 0 tx.inputs, verdict_shows over tx (index + 1) inputs),
  ),
)

-- ---- the whole

all_show : (over : Standing) (tx : Tx) → AllShow over tx (admission_rules First over tx)
unfolding admission_rules
all_show over tx =
    let coins = coins_of over.chain over.entries tx.inputs in
    both_show over tx (alone_rules over.policy.standards tx) _ (alone_shows over tx)
    (both_show over tx (final_rules over.chain tx) _ (final_shows over tx)
    (both_show over tx (pool_rules over.policy over.entries tx) _ (pool_shows over tx)
    (both_show over tx (coin_rules over.chain over.entries tx) _ (coin_shows over tx)
    (both_show over tx (lock_rules over.chain coins tx) _ (lock_shows over tx coins)
    (both_show over tx (coin_value_rules (tip_of over.chain + 1) 0 coins) _ (coin_values_show over tx (tip_of over.chain + 1) 0 coins)
    (both_show over tx (balance_rules (coins_value coins) (outputs_value tx)) _ (balance_shows over tx)
    (both_show over tx (report_rules over.policy (reported tx.inputs coins) (coins_value coins - outputs_value tx) tx) _ (reports_show over tx)
    (both_show over tx (payment_rules First over.policy tx over.floor (fee_at over.chain over.entries tx) (vsize_of over.policy.sigop_size (cost_at over.chain over.entries tx) tx)) _ (payment_shows over tx)
    (both_show over tx (limit_rules First over.policy over.entries tx (vsize_of over.policy.sigop_size (cost_at over.chain over.entries tx) tx)) _ (limits_show over tx _)
    (both_show over tx (sweep_rules over.policy.standards over.entries tx) _ (sweep_shows over tx)
    (both_show over tx (replacement_rules (incremental_feerate over.policy) over.policy.parents over.entries (sibling_in over tx) tx (fee_at over.chain over.entries tx) (vsize_of over.policy.sigop_size (cost_at over.chain over.entries tx) tx)) _ (replacement_shows over tx)
    (verdict_shows over tx 0 tx.inputs))))))))))))

pub denied : (found : Option Denial) (grant : Grant) (denial : Denial) → denied_or found grant ≡ Err denial → found ≡ Some denial
denied None grant denial h = absurd (true≢false (ap is_granted h))
  where
    is_granted : Result Grant Denial → Bool
    is_granted (Ok g) = true
    is_granted (Err d) = false
denied (Some said) grant denial h = ap said_by h
  where
    said_by : Result Grant Denial → Option Denial
    said_by (Ok g) = None
    said_by (Err d) = Some d

pub figures_decide : FiguresDecide
unfolding decision_of
figures_decide over tx denial h =
    found over tx denial (admission_rules First over tx) (all_show over tx) (denied (first_failing (admission_rules First over tx)) (grant_of First over tx) denial h)
