-- What the definitions are where an operator sets nothing: the numbers of Bitcoin Core 22.0, written out.
use Rattle.std.specs.Prelude.{◌≡◌, ◌+◌, ◌*◌, ◌/◌, ◌-◌, ℕ, nat_le, nat_lt, max, Bool, true, false, ◌&&◌, ◌||◌, not, if◌then◌else◌, List, [], ◌∷◌, length, None, pos}
use Rattle.std.specs.Ordering.{int_eq}
use Rattle.std.specs.List.{list_all, list_any, count_by}
use Rattle.gate_bytes.specs.Order.{Rule}
use Rattle.gate_tx.specs.declared.TxOut.{TxOut}
use Rattle.gate_tx.specs.Coins.{is_unspendable}
use Rattle.gate_tx.specs.Sizes.{stripped_size_of, weight_of}
use Rattle.gate_tx.specs.Tx.{Tx}
use Rattle.gate_script.specs.declared.Template.{Template}
use Rattle.gate_script.specs.declared.Template.TheVariants.{NullData, Multisig, Nonstandard}
use Rattle.gate_standard.specs.Amounts.{down, required_fee, feerate}
use Rattle.gate_inputs.specs.declared.Answers.{Answers}
use Rattle.gate_standard.specs.Outputs.{is_standard_output, is_standard_template, carries_data, dust_threshold_of, is_dust, size_with_spend}
use Rattle.gate_standard.specs.Rules.{left_behind, rules_of_output, rules_of_whole, version_rules}
use Rattle.gate_rules.specs.declared.Denial.{Denial}
use Rattle.gate_rules.specs.declared.Denial.TheVariants.{Version, ScriptPubKey, Dust, DataCarrier, MultiOpReturn, TxSizeSmall, NonstandardInputs, WitnessNonstandard, DustWithFee, TooManySigops, UnsweptDust, MempoolMinFee, MinRelayFee, LowerFee, LowerDifference}
use Rattle.gate_pool.specs.Pool.{Admitted, size_of}
use Rattle.gate_pool.specs.Family.{ancestors_of, descendants_of, conflicts_of}
use Rattle.gate_graph.specs.declared.held.Sums.{Sums}
use Rattle.gate_rbf.specs.Paying.{amount_rules}
use Rattle.gate_rbf.specs.Replacing.{adds_parent, adds_unconfirmed, is_replaceable, signals}
use Rattle.gate_trim.specs.Expiry.{is_stale}
use Rattle.gate_trim.specs.Trimming.{raised}
use Rattle.gate_admit.specs.declared.attempt.Attempt.TheVariants.{First}
use Rattle.gate_admit.specs.declared.limits.FamilyLimits.{FamilyLimits}
use Rattle.gate_admit.specs.Limits.{usual_limits, carved_out, is_limited}
use Rattle.gate_admit.specs.Policies.{incremental_feerate, usual_policy}
use Rattle.gate_admit.specs.Reports.{report_rules, sigop_cost, vsize_of}
use Rattle.gate_admit.specs.Rules.{fee_rules}
use Rattle.gate_admit.specs.Truc.{breaks_truc, sibling_of}
use Rattle.gate_admit.specs.Sweeping.{sweep_rules}

-- the standard templates: at most 3 keys, and at most 83 bytes of data
abbrev pub standard_by_default : Template → ℕ → Bool
standard_by_default Nonstandard size = false
standard_by_default (Multisig required keys) size = nat_le 1 keys && nat_le keys 3
standard_by_default NullData size = nat_le size 83
standard_by_default template size = true

abbrev pub limits_by_default : FamilyLimits
limits_by_default = record { ancestors = 25; ancestors_size = 101000; descendants = 25; descendants_size = 101000 }

abbrev pub carved_out_by_default : FamilyLimits
carved_out_by_default = record { ancestors = 2; ancestors_size = 101000; descendants = 26; descendants_size = 111000 }

-- with the defaults each definition that reads a setting is what it is with these numbers in its place
pub record DefaultsChangeNothing : Type 0 where
  -- A16 to A19, and A51, which doesn't fail; no output may be dust
  pub template : (template : Template) (size : ℕ) → is_standard_template usual_policy.standards template size ≡ standard_by_default template size
  pub dust : (o : TxOut) → dust_threshold_of usual_policy.standards.dust_rate o ≡ (if is_unspendable o.script then 0 else required_fee (down 3000) (size_with_spend o))
  pub whole : (tx : Tx) → rules_of_whole usual_policy.standards tx ≡ (Dust, false) ∷ (MultiOpReturn, nat_lt 1 (count_by carries_data tx.outputs)) ∷ (TxSizeSmall, nat_lt (stripped_size_of tx) 82) ∷ []
  pub carriers : (o : TxOut) → rules_of_output usual_policy.standards usual_policy.standards.data_total o ≡ (ScriptPubKey, not (is_standard_output usual_policy.standards o)) ∷ (DataCarrier, carries_data o && false) ∷ (Dust, is_dust (down 3000) o) ∷ []
  pub unbounded : (carries : Bool) (size : ℕ) → left_behind usual_policy.standards.data_total carries size ≡ None
  -- A12, A23 and A47: version 3 isn't standard, so it says nothing of a replacement, and no family is asked for it
  pub version : (tx : Tx) → version_rules usual_policy.standards.truc tx ≡ (Version, not (int_eq tx.version (pos 1) || int_eq tx.version (pos 2))) ∷ []
  pub signal : (tx : Tx) → is_replaceable usual_policy.standards.truc tx ≡ signals tx
  pub kin : (entries : List Admitted) (tx : Tx) (vsize : ℕ) → breaks_truc First usual_policy entries tx vsize ≡ false
  pub sibling : (entries : List Admitted) (tx : Tx) → sibling_of First usual_policy entries tx ≡ None
  -- A31 to A33, and A48 and A49, which don't fail
  pub reports : (answers : List Answers) (fee : ℕ) (tx : Tx)
      → report_rules usual_policy answers fee tx
      ≡ (NonstandardInputs, not (list_all (λ (a : Answers). a.standard) answers)) ∷ (WitnessNonstandard, not (list_all (λ (a : Answers). a.witness_standard) answers)) ∷ (DustWithFee, false) ∷ (TooManySigops, nat_lt 16000 (sigop_cost answers tx.outputs)) ∷ []
  pub sweeping : (entries : List Admitted) (tx : Tx) → sweep_rules usual_policy.standards entries tx ≡ (UnsweptDust, false) ∷ []
  -- the virtual size, A35, A40 and A42
  pub size : (cost : ℕ) (tx : Tx) → vsize_of usual_policy.sigop_size cost tx ≡ (max (weight_of tx) (20 * cost) + 3) / 4
  pub relay : (tx : Tx) (floor fee vsize : ℕ) → fee_rules usual_policy tx floor fee vsize ≡ (MempoolMinFee, nat_lt fee (required_fee (down floor) vsize)) ∷ (MinRelayFee, nat_lt fee (required_fee (down 1000) vsize)) ∷ []
  pub parents : (entries : List Admitted) (tx : Tx) → adds_unconfirmed usual_policy.parents entries None tx ≡ list_any (adds_parent entries (conflicts_of entries tx)) tx.inputs
  pub replacement : (paid fee vsize : ℕ) → amount_rules (incremental_feerate usual_policy) paid fee vsize ≡ (LowerFee, nat_lt fee paid) ∷ (LowerDifference, nat_lt (fee - paid) (required_fee (down 1000) vsize)) ∷ []
  -- A36 and what is tried again
  pub first : usual_limits usual_policy ≡ limits_by_default
  pub second : carved_out (usual_limits usual_policy) ≡ carved_out_by_default
  pub again : (entries : List Admitted) (txid : List ℕ)
      → is_limited usual_policy entries txid
      ≡ (nat_le (length (ancestors_of entries txid)) 25 && (nat_le (size_of (ancestors_of entries txid)) 101000 && (nat_le (length (descendants_of entries txid)) 26 && nat_le (size_of (descendants_of entries txid)) 111000)))
  -- expiry, and the floor
  pub stale : (now : ℕ) (e : Admitted) → is_stale usual_policy.stay now e ≡ nat_lt (e.time + 1209600) now
  pub floor : (floor : ℕ) (family : Sums) → raised usual_policy.incremental_rate floor family ≡ max floor (feerate family.fees family.size + 1000)
