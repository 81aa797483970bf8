-- What decides that a transaction is denied, in numbers.
use Rattle.std.specs.Prelude.{ℕ, ◌+◌, ◌-◌, ◌*◌, ◌^◌, not, ◌&&◌, nat_le, nat_lt, Bool, true, false, if◌then◌else◌, List, [], ◌∷◌, length, is_none, Option, Some, None}
use Rattle.std.specs.List.{count_by}
use Rattle.std.specs.Option.{option_or}
use Rattle.gate_tx.specs.declared.Coin.{Coin}
use Rattle.gate_tx.specs.declared.TxIn.{TxIn}
use Rattle.gate_tx.specs.declared.TxOut.{TxOut}
use Rattle.gate_tx.specs.Coins.{spends}
use Rattle.gate_tx.specs.Ids.{txid_of, wtxid_of}
use Rattle.gate_tx.specs.Sizes.{stripped_size_of, weight_of}
use Rattle.gate_tx.specs.Tx.{Tx}
use Rattle.gate_standard.specs.Amounts.{feerate, required_fee}
use Rattle.gate_script.specs.declared.Template.{Template}
use Rattle.gate_script.specs.declared.Template.TheVariants.{NullData, Multisig, Nonstandard}
use Rattle.gate_script.specs.Templates.{template_of}
use Rattle.gate_inputs.specs.declared.Answers.{Answers}
use Rattle.gate_standard.specs.Outputs.{carries_data, dust_threshold_of, is_dust}
use Rattle.gate_standard.specs.declared.Standards.{Standards}
use Rattle.gate_rules.specs.declared.Denial.{Denial}
use Rattle.gate_standard.specs.declared.Feerate.{Feerate}
use Rattle.gate_rules.specs.declared.Denial.TheVariants.{Oversize, TxSize, ScriptPubKey, Dust as BelowDust, DataCarrier, MultiOpReturn, TxSizeSmall, NonFinal, MempoolConflict, MissingOrSpent, NonBip68Final, PrematureSpend, NonstandardInputs, WitnessNonstandard, InBelowOut, DustWithFee, UnsweptDust, TooManySigops, MempoolMinFee, MinRelayFee, TooLongChain, LowerFeeRate, TooManyReplacements, LowerFee, LowerDifference, VerdictMissing, SoftVerdict, HardVerdict}
use Rattle.gate_chain.specs.History.{History}
use Rattle.gate_chain.specs.Times.{tip_of, mtp_of}
use Rattle.gate_locks.specs.Locks.{is_by_time, is_disabled, median_at, span_of}
use Rattle.gate_pool.specs.Pool.{Admitted, entry_by_txid, size_of, spender_of}
use Rattle.gate_pool.specs.Family.{ancestors_above, fees_of}
use Rattle.gate_pool.specs.Counting.{counted_of, replaced_beside}
use Rattle.gate_rbf.specs.Replacing.{descendant_count, is_replaceable}
use Rattle.gate_admit.specs.declared.Attempt.TheVariants.{First}
use Rattle.gate_admit.specs.Limits.{has_second_try}
use Rattle.gate_admit.specs.Truc.{sibling_of}
use Rattle.gate_submission.specs.declared.verdict.Verdict.{Verdict}
use Rattle.gate_submission.specs.declared.verdict.Verdict.TheVariants.{Good}
use Rattle.gate_admit.specs.Coins.{coins_of, view_coin}
use Rattle.gate_admit.specs.Policies.{Policy, feerate_by, incremental_feerate, most_ancestors, relay_feerate}
use Rattle.gate_admit.specs.Reports.{has_relayed_witness, is_relayed, legacy_sigops, reported, sigop_cost, vsize_of}
use Rattle.gate_admit.specs.Rules.{coins_value, is_immature, outputs_value}
use Rattle.gate_admit.specs.Standing.{Standing}
use Rattle.gate_admit.specs.Verdicts.{VerdictTable, verdict_of}
use Rattle.gate_figures.specs.declared.figures.Figures.{Figures}
use Rattle.gate_figures.specs.declared.figures.Figures.TheVariants.{Large, Small, Weighs, Script, BareMultisig, DataScript, DataOutputs, DataLeft, Dust, DustPays, Unswept, Final, Spent, NoCoin, Young, HeightLocked, TimeLocked, UntimedLocked, NonstandardSpend, LegacySigops, NonstandardWitness, Balance, Costs, Pays, Ancestors, AncestorsSized, Outpaid, Descendants, Above, Input}

-- ---- outputs

-- the first output that is dust at this rate, among outputs from this index on
abbrev pub dust : Feerate → ℕ → List TxOut → Option Figures
dust rate index [] = None
dust rate index (output ∷ outputs) =
    if is_dust rate output then Some (Dust index output.value (dust_threshold_of rate output)) else dust rate (index + 1) outputs

-- the first output that is dust at this rate, among outputs from this index on, with the fee that is paid beside it
abbrev pub dust_paying : Feerate → ℕ → ℕ → List TxOut → Option Figures
dust_paying rate fee index [] = None
dust_paying rate fee index (output ∷ outputs) = if is_dust rate output then Some (DustPays index fee) else dust_paying rate fee (index + 1) outputs

-- what is wrong with an output's script of this template and this size, at this index
abbrev pub script_figures : Standards → ℕ → Template → ℕ → Option Figures
script_figures standards index Nonstandard size = Some (Script index)
script_figures standards index (Multisig required keys) size =
    if standards.bare_multisig then if nat_le 1 keys && nat_le keys 3 then None else Some (Script index) else Some (BareMultisig index)
script_figures standards index NullData size = if nat_le size standards.data_size then None else Some (DataScript index size standards.data_size)
script_figures standards index template size = None

-- the first output whose script is not standard, among outputs from this index on
abbrev pub nonstandard : Standards → ℕ → List TxOut → Option Figures
nonstandard standards index [] = None
nonstandard standards index (output ∷ outputs) =
    option_or (script_figures standards index (template_of output.script) (length output.script)) (nonstandard standards (index + 1) outputs)

-- the first output whose script carries more data than is left of so many bytes, among outputs from this index on
abbrev pub data_past : ℕ → ℕ → List TxOut → Option Figures
data_past left index [] = None
data_past left index (output ∷ outputs) =
    if carries_data output then if nat_lt left (length output.script) then Some (DataLeft index (length output.script) left) else data_past (left - length output.script) (index + 1) outputs
    else data_past left (index + 1) outputs

abbrev pub data_past_total : Option ℕ → List TxOut → Option Figures
data_past_total None outputs = None
data_past_total (Some total) outputs = data_past total 0 outputs

-- ---- coins

-- the first input without a coin, among inputs from this index on
abbrev pub coinless : History → List Admitted → ℕ → List TxIn → Option Figures
coinless chain entries index [] = None
coinless chain entries index (input ∷ inputs) =
    if is_none (view_coin chain entries input.prevout) then Some (NoCoin index input.prevout) else coinless chain entries (index + 1) inputs

-- the coin that the input at this index spends, if it is a coinbase's and too young for the next block
abbrev pub young_by : ℕ → ℕ → Option Coin → Option Figures
young_by next_height index None = None
young_by next_height index (Some coin) = if is_immature next_height coin then Some (Young index coin.height next_height) else None

-- the first input whose coin is a coinbase's and too young for the next block, among inputs from this index on
abbrev pub young : History → List Admitted → ℕ → List TxIn → Option Figures
young chain entries index [] = None
young chain entries index (input ∷ inputs) =
    option_or (young_by (tip_of chain + 1) index (view_coin chain entries input.prevout)) (young chain entries (index + 1) inputs)

-- ---- dust of parents

-- the first of these outputs of the transaction of an id, the first at this index, that is dust and that none of the inputs spends
abbrev pub unswept_output : Feerate → List TxIn → List ℕ → ℕ → List TxOut → Option Figures
unswept_output rate inputs txid index [] = None
unswept_output rate inputs txid index (output ∷ outputs) =
    if is_dust rate output && not (spends inputs (record { txid = txid; index = index })) then Some (Unswept (record { txid = txid; index = index }))
    else unswept_output rate inputs txid (index + 1) outputs

-- the first such output of a parent of this id; a parent in a block is not asked
abbrev pub unswept_of : Feerate → List TxIn → List ℕ → Option Admitted → Option Figures
unswept_of rate inputs txid None = None
unswept_of rate inputs txid (Some e) = unswept_output rate inputs txid 0 e.tx.outputs

-- the first such output of a parent in the pool, by these inputs in turn, of all that the transaction has
abbrev pub unswept : Feerate → List Admitted → List TxIn → List TxIn → Option Figures
unswept rate entries all [] = None
unswept rate entries all (input ∷ inputs) =
    option_or (unswept_of rate all input.prevout.txid (entry_by_txid entries input.prevout.txid)) (unswept rate entries all inputs)

-- ---- relative locks

-- a lock of so many blocks on a coin of this height, if the next height doesn't meet it
abbrev pub height_locked : ℕ → ℕ → ℕ → ℕ → Option Figures
height_locked next_height index span height =
    if nat_le (height + span) next_height then None else Some (HeightLocked index (height + span - next_height))

-- a lock of so many seconds from a second that may not be known, if it is not met now
abbrev pub time_locked : ℕ → ℕ → ℕ → Option ℕ → Option Figures
time_locked now index wait None = Some (UntimedLocked index)
time_locked now index wait (Some start) = if nat_le (start + wait) now then None else Some (TimeLocked index (start + wait - now))

-- the lock of the input at this index, if a coin of this height doesn't meet it
unfoldable pub locked_by : History → ℕ → ℕ → ℕ → Option Figures
locked_by chain index sequence height =
    if is_disabled sequence then None
    else if is_by_time sequence then time_locked (median_at chain (tip_of chain)) index (512 * span_of sequence) (mtp_of chain (height - 1))
    else height_locked (tip_of chain + 1) index (span_of sequence) height

abbrev pub locked_coin : History → ℕ → ℕ → Option Coin → Option Figures
locked_coin chain index sequence None = None
locked_coin chain index sequence (Some coin) = locked_by chain index sequence coin.height

-- the first input whose relative lock is not met, among inputs from this index on
abbrev pub locked : History → List Admitted → ℕ → List TxIn → Option Figures
locked chain entries index [] = None
locked chain entries index (input ∷ inputs) =
    option_or (locked_coin chain index input.sequence (view_coin chain entries input.prevout)) (locked chain entries (index + 1) inputs)

-- ---- reports

-- the first input that spends what is not standard, by what is reported of the inputs from this index on
abbrev pub nonstandard_spend : Bool → ℕ → List Answers → Option Figures
nonstandard_spend anchors index [] = None
nonstandard_spend anchors index (answers ∷ rest) =
    if is_relayed anchors answers then nonstandard_spend anchors (index + 1) rest else Some (NonstandardSpend index)

-- this many legacy signature operations, if they are more than a limit
abbrev pub many_legacy : Option ℕ → ℕ → Option Figures
many_legacy None count = None
many_legacy (Some most) count = if nat_le count most then None else Some (LegacySigops count most)

abbrev pub nonstandard_inputs : Policy → List Answers → Option Figures
nonstandard_inputs policy answers = option_or (nonstandard_spend policy.anchors 0 answers) (many_legacy policy.legacy_sigops (legacy_sigops answers))

-- the first input whose witness is not standard
abbrev pub nonstandard_witness : Bool → ℕ → List Answers → Option Figures
nonstandard_witness anchors index [] = None
nonstandard_witness anchors index (answers ∷ rest) =
    if has_relayed_witness anchors answers then nonstandard_witness anchors (index + 1) rest else Some (NonstandardWitness index)

-- ---- entries that conflict with the transaction

-- the entry that spends the outpoint of the input at this index, if it doesn't say that it may be replaced,
-- by its version too or by its sequences alone
abbrev pub non_signalling_by : Bool → ℕ → Option Admitted → Option Figures
non_signalling_by by_version index None = None
non_signalling_by by_version index (Some e) = if is_replaceable by_version e.tx then None else Some (Spent index (txid_of e.tx))

-- the first such entry, input by input, among inputs from this index on
abbrev pub non_signalling : Bool → List Admitted → ℕ → List TxIn → Option Figures
non_signalling by_version entries index [] = None
non_signalling by_version entries index (input ∷ inputs) = option_or (non_signalling_by by_version index (spender_of entries input.prevout)) (non_signalling by_version entries (index + 1) inputs)

-- the feerate of a fee for a size; a fee that 64 bits don't hold has no feerate
unfoldable pub rate_at : ℕ → Option ℕ → Option ℕ
rate_at fee None = None
rate_at fee (Some vsize) = if nat_lt (2 ^ 64 - 1) fee then None else Some (feerate fee vsize)

-- the entry that spends the outpoint of an input, if it pays at least this feerate
abbrev pub outpaid_by : ℕ → Option Admitted → Option Figures
outpaid_by rate None = None
outpaid_by rate (Some e) = if nat_lt (feerate e.fee e.vsize) rate then None else Some (Outpaid rate (feerate e.fee e.vsize) (txid_of e.tx))

-- the first entry, input by input, that spends the outpoint of an input and pays at least this feerate
abbrev pub outpaid : List Admitted → ℕ → List TxIn → Option Figures
outpaid entries rate [] = None
outpaid entries rate (input ∷ inputs) = option_or (outpaid_by rate (spender_of entries input.prevout)) (outpaid entries rate inputs)

-- the sibling of this id, if it pays at least this feerate
abbrev pub outpaid_sibling : List Admitted → ℕ → Option (List ℕ) → Option Figures
outpaid_sibling entries rate None = None
outpaid_sibling entries rate (Some txid) = outpaid_by rate (entry_by_txid entries txid)

-- the first such entry, input by input, or else such a sibling
abbrev pub outpaid_beside : List Admitted → Option (List ℕ) → ℕ → List TxIn → Option Figures
outpaid_beside entries sibling rate inputs = option_or (outpaid entries rate inputs) (outpaid_sibling entries rate sibling)

-- the same; none if there is no feerate
unfoldable pub outpaid_at : List Admitted → Option (List ℕ) → Option ℕ → List TxIn → Option Figures
outpaid_at entries sibling None inputs = None
outpaid_at entries sibling (Some rate) inputs = outpaid_beside entries sibling rate inputs

-- ---- fees

-- the total value of a transaction's coins
abbrev pub coins_at : History → List Admitted → Tx → ℕ
coins_at chain entries tx = coins_value (coins_of chain entries tx.inputs)

-- the fee of a transaction: the value of its coins above that of its outputs
abbrev pub fee_at : History → List Admitted → Tx → ℕ
fee_at chain entries tx = coins_at chain entries tx - outputs_value tx

-- the cost of a transaction's signature operations
abbrev pub cost_at : History → List Admitted → Tx → ℕ
cost_at chain entries tx = sigop_cost (reported tx.inputs (coins_of chain entries tx.inputs)) tx.outputs

-- the virtual size of a transaction at a cost of its signature operations, each of which counts for this many bytes; none if the
-- cost is past its limit
abbrev pub sized : ℕ → ℕ → Tx → Option ℕ
sized sigop_size cost tx = if nat_lt 16000 cost then None else Some (vsize_of sigop_size cost tx)

-- the virtual size of a transaction
abbrev pub vsize_at : ℕ → History → List Admitted → Tx → Option ℕ
vsize_at sigop_size chain entries tx = sized sigop_size (cost_at chain entries tx) tx

-- the fee that is paid, and the fee that a size needs at a feerate
unfoldable pub pays : Feerate → ℕ → Option ℕ → Option Figures
pays rate fee None = None
pays rate fee (Some vsize) = Some (Pays fee (required_fee rate vsize))

-- the fee that is paid, the fees of the entries that would be replaced, and what has to be paid above them at a feerate
unfoldable pub pays_above : Feerate → ℕ → ℕ → Option ℕ → Option Figures
pays_above rate gone fee None = None
pays_above rate gone fee (Some vsize) = Some (Above fee gone (required_fee rate vsize))

-- ---- families

-- how many ancestors a transaction of this size may have by one of the two tries, itself among them
abbrev pub allowed_ancestors : Policy → Tx → ℕ → ℕ
allowed_ancestors policy tx vsize = if has_second_try tx vsize then most_ancestors policy else policy.ancestors

-- the ancestors of a transaction of this size, and itself, if they are more than this, or too large
abbrev pub crowded_past : Policy → ℕ → List Admitted → ℕ → Option Figures
crowded_past policy most above vsize =
    if nat_lt most (length above + 1) then Some (Ancestors (length above + 1) most)
    else if nat_lt policy.ancestors_size (size_of above + vsize) then Some (AncestorsSized (size_of above + vsize) policy.ancestors_size) else None

-- the transaction's ancestors and itself, if they are too many or too large
abbrev pub crowded : Policy → Tx → List Admitted → Option ℕ → Option Figures
crowded policy tx above None = None
crowded policy tx above (Some vsize) = crowded_past policy (allowed_ancestors policy tx vsize) above vsize

-- ---- verdicts

abbrev pub is_good : Option Verdict → Bool
is_good (Some Good) = true
is_good other = false

-- the first input whose verdict is not a good one, among inputs from this index on
abbrev pub doubted : VerdictTable → List ℕ → ℕ → List TxIn → Option Figures
doubted verdicts wtxid index [] = None
doubted verdicts wtxid index (input ∷ inputs) =
    if is_good (verdict_of verdicts wtxid index) then doubted verdicts wtxid (index + 1) inputs else Some (Input index wtxid)

-- ---- the whole

-- the id of the sibling that a transaction evicts
abbrev pub sibling_in : Standing → Tx → Option (List ℕ)
sibling_in over tx = sibling_of First over.policy over.entries tx

-- the figures of the rules on what a transaction pays and for what size
unfoldable pub paying_figures : Standing → Tx → Denial → Option Figures
paying_figures over tx InBelowOut = Some (Balance (coins_at over.chain over.entries tx) (outputs_value tx))
paying_figures over tx DustWithFee = dust_paying over.policy.standards.dust_rate (fee_at over.chain over.entries tx) 0 tx.outputs
paying_figures over tx TooManySigops = Some (Costs (cost_at over.chain over.entries tx))
paying_figures over tx MempoolMinFee = pays (feerate_by over.policy over.floor) (fee_at over.chain over.entries tx) (vsize_at over.policy.sigop_size over.chain over.entries tx)
paying_figures over tx MinRelayFee = pays (relay_feerate over.policy) (fee_at over.chain over.entries tx) (vsize_at over.policy.sigop_size over.chain over.entries tx)
paying_figures over tx TooLongChain = crowded over.policy tx (ancestors_above over.entries tx.inputs) (vsize_at over.policy.sigop_size over.chain over.entries tx)
paying_figures over tx LowerFeeRate = outpaid_at over.entries (sibling_in over tx) (rate_at (fee_at over.chain over.entries tx) (vsize_at over.policy.sigop_size over.chain over.entries tx)) tx.inputs
paying_figures over tx LowerFee = Some (Pays (fee_at over.chain over.entries tx) (fees_of (replaced_beside over.entries (sibling_in over tx) tx)))
paying_figures over tx LowerDifference = pays_above (incremental_feerate over.policy) (fees_of (replaced_beside over.entries (sibling_in over tx) tx)) (fee_at over.chain over.entries tx) (vsize_at over.policy.sigop_size over.chain over.entries tx)
paying_figures over tx other = None

-- the figures by which a rule denies a transaction; a rule without figures has none
unfoldable pub figures_of : Standing → Tx → Denial → Option Figures
figures_of over tx Oversize = Some (Large (stripped_size_of tx))
figures_of over tx TxSize = Some (Weighs (weight_of tx))
figures_of over tx ScriptPubKey = nonstandard over.policy.standards 0 tx.outputs
figures_of over tx MultiOpReturn = Some (DataOutputs (count_by carries_data tx.outputs) over.policy.standards.data_outputs)
figures_of over tx DataCarrier = data_past_total over.policy.standards.data_total tx.outputs
figures_of over tx BelowDust = dust over.policy.standards.dust_rate 0 tx.outputs
figures_of over tx TxSizeSmall = Some (Small (stripped_size_of tx) over.policy.standards.least_size)
figures_of over tx NonFinal = Some (Final tx.locktime (tip_of over.chain + 1) (median_at over.chain (tip_of over.chain)))
figures_of over tx MempoolConflict = non_signalling over.policy.standards.truc over.entries 0 tx.inputs
figures_of over tx MissingOrSpent = coinless over.chain over.entries 0 tx.inputs
figures_of over tx NonBip68Final = locked over.chain over.entries 0 tx.inputs
figures_of over tx NonstandardInputs = nonstandard_inputs over.policy (reported tx.inputs (coins_of over.chain over.entries tx.inputs))
figures_of over tx WitnessNonstandard = nonstandard_witness over.policy.anchors 0 (reported tx.inputs (coins_of over.chain over.entries tx.inputs))
figures_of over tx PrematureSpend = young over.chain over.entries 0 tx.inputs
figures_of over tx TooManyReplacements = Some (Descendants (descendant_count over.entries (counted_of over.entries (sibling_in over tx) tx)))
figures_of over tx UnsweptDust = unswept over.policy.standards.dust_rate over.entries tx.inputs tx.inputs
figures_of over tx VerdictMissing = doubted over.verdicts (wtxid_of tx) 0 tx.inputs
figures_of over tx SoftVerdict = doubted over.verdicts (wtxid_of tx) 0 tx.inputs
figures_of over tx HardVerdict = doubted over.verdicts (wtxid_of tx) 0 tx.inputs
figures_of over tx other = paying_figures over tx other
