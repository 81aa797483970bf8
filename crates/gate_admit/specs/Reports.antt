-- The reports on the inputs of a transaction (A31 to A33) with A48 among them, its size with the cost of its signature operations,
-- and the verdicts on its inputs (A43 to A45).
use Rattle.std.specs.Prelude.{ℕ, ◌+◌, ◌-◌, ◌*◌, ◌/◌, ◌^◌, nat_lt, max, min, not, ◌&&◌, ◌||◌, Bool, true, false, map, zip, sum_by, List, [], ◌∷◌, ◌++◌, Option, Some, None}
use Rattle.std.specs.List.{list_all}
use Rattle.gate_tx.specs.declared.Coin.{Coin}
use Rattle.gate_tx.specs.declared.TxIn.{TxIn}
use Rattle.gate_tx.specs.declared.TxOut.{TxOut}
use Rattle.gate_tx.specs.Sizes.{weight_of}
use Rattle.gate_tx.specs.Tx.{Tx}
use Rattle.gate_script.specs.Sigops.{sigops_of}
use Rattle.gate_rules.specs.declared.Denial.{Denial}
use Rattle.gate_rules.specs.declared.Denial.TheVariants.{NonstandardInputs, WitnessNonstandard, DustWithFee, TooManySigops, VerdictMissing, SoftVerdict, HardVerdict}
use Rattle.gate_standard.specs.Rules.{has_ephemeral_dust}
use Rattle.gate_standard.specs.Standards.{is_past}
use Rattle.gate_bytes.specs.Order.{Rule}
use Rattle.gate_inputs.specs.declared.Answers.{Answers}
use Rattle.gate_inputs.specs.Answers.{answers_of}
use Rattle.gate_submission.specs.declared.verdict.Verdict.{Verdict}
use Rattle.gate_submission.specs.declared.verdict.Verdict.TheVariants.{Soft, Hard}
use Rattle.gate_admit.specs.Policies.{Policy}
use Rattle.gate_admit.specs.Verdicts.{VerdictTable, verdict_of}

-- ---- A31 to A33, and A48

-- what is reported of each input with its coin
abbrev pub reported : List TxIn → List Coin → List Answers
reported inputs coins = map (λ (p : TxIn × Coin). answers_of p.0 p.1.script) (zip inputs coins)

-- the signature operations of an output's script, counted inaccurately; at most 2^64 - 1, which no transaction reaches
abbrev pub output_sigops : TxOut → ℕ
output_sigops output = min (sigops_of false output.script) (2 ^ 64 - 1)

-- the cost of the inputs, and four for each signature operation of an output
abbrev pub sigop_cost : List Answers → List TxOut → ℕ
sigop_cost answers outputs = sum_by (λ (a : Answers). a.sigop_cost) answers + 4 * sum_by output_sigops outputs

-- the spend of a coin that is standard, or an anchor where the operator takes these
abbrev pub is_relayed : Bool → Answers → Bool
is_relayed anchors a = (anchors && a.anchor) || a.standard

-- a witness that is standard; where the operator takes anchors, one is spent without a witness
abbrev pub has_relayed_witness : Bool → Answers → Bool
has_relayed_witness anchors a = not (anchors && (a.anchor && not a.bare)) && a.witness_standard

-- the legacy signature operations of all inputs
abbrev pub legacy_sigops : List Answers → ℕ
legacy_sigops answers = sum_by (λ (a : Answers). a.legacy_sigops) answers

-- a transaction with dust that a child may sweep pays no fee, so that nobody gains by mining it alone
unfoldable pub report_rules : Policy → List Answers → ℕ → Tx → List (Rule Denial)
report_rules policy answers fee tx =
    (NonstandardInputs, is_past policy.legacy_sigops (legacy_sigops answers) || not (list_all (is_relayed policy.anchors) answers))
    ∷ (WitnessNonstandard, not (list_all (has_relayed_witness policy.anchors) answers))
    ∷ (DustWithFee, has_ephemeral_dust policy.standards tx && nat_lt 0 fee)
    ∷ (TooManySigops, nat_lt 16000 (sigop_cost answers tx.outputs))
    ∷ []

-- the size in virtual bytes: a quarter, rounded up, of the weight or of this many bytes for each unit of the cost, whichever is
-- more
abbrev pub vsize_of : ℕ → ℕ → Tx → ℕ
vsize_of sigop_size cost tx = (max (weight_of tx) (sigop_size * cost) + 3) / 4

-- ---- A43 to A45

abbrev pub is_missing : Option Verdict → Bool
is_missing None = true
is_missing (Some verdict) = false

abbrev pub is_soft : Option Verdict → Bool
is_soft (Some Soft) = true
is_soft other = false

abbrev pub is_hard : Option Verdict → Bool
is_hard (Some Hard) = true
is_hard other = false

unfoldable pub rules_of_verdict : Option Verdict → List (Rule Denial)
rules_of_verdict verdict = (VerdictMissing, is_missing verdict) ∷ (SoftVerdict, is_soft verdict) ∷ (HardVerdict, is_hard verdict) ∷ []

-- the rules on the verdicts, input by input, the first at this index
unfoldable pub verdict_rules : VerdictTable → List ℕ → ℕ → List TxIn → List (Rule Denial)
verdict_rules verdicts wtxid index [] = []
verdict_rules verdicts wtxid index (input ∷ inputs) = rules_of_verdict (verdict_of verdicts wtxid index) ++ verdict_rules verdicts wtxid (index + 1) inputs
