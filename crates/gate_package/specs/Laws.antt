-- Laws of packages.
use Rattle.std.specs.Prelude.{◌≡◌, ◌≤◌, ◌+◌, ◌⊎◌, ℕ, true, false, List, [], ◌∷◌, ◌++◌, length, Some, None, Result, Ok, Err}
use Rattle.std.specs.List.{All, list_any}
use Rattle.gate_bytes.specs.Order.{first_failing}
use Rattle.gate_tx.specs.Ids.{txid_of, wtxid_of}
use Rattle.gate_tx.specs.Tx.{Tx}
use Rattle.gate_rules.specs.declared.Denial.{Denial}
use Rattle.gate_submission.specs.declared.Fate.{Fate}
use Rattle.gate_submission.specs.declared.Fate.TheVariants.{Taken, Known, OtherWitness, Denied}
use Rattle.gate_submission.specs.declared.Member.{Member}
use Rattle.gate_submission.specs.declared.PackageVerdict.TheVariants as verdicts
use Rattle.gate_pool.specs.Pool.{Admitted, entry_by_txid, entry_by_wtxid}
use Rattle.gate_pool.specs.Family.{ancestors_above, fees_of}
use Rattle.gate_standard.specs.Amounts.{required_fee}
use Rattle.gate_trim.specs.Expiry.{expired}
use Rattle.gate_admit.specs.declared.Attempt.TheVariants.{First}
use Rattle.gate_admit.specs.declared.Grant.{Grant}
use Rattle.gate_admit.specs.Good.{IsGood, IsUnconnected, limits_for}
use Rattle.gate_admit.specs.Limits.{is_within, usual_limits}
use Rattle.gate_admit.specs.Policies.{incremental_feerate}
use Rattle.gate_admit.specs.Rules.{decision_of, grant_of}
use Rattle.gate_admit.specs.Standing.{Standing}
use Rattle.gate_admit.specs.Submission.{submit_of}
use Rattle.gate_admit.specs.Truc.{TrucHolds}
use Rattle.gate_package.specs.Judging.{rate_rules}
use Rattle.gate_package.specs.Packages.{course_of, entered_together, judged_of, packaged_of}
use Rattle.gate_diagram.specs.Prices.{price_sum_size}
use Rattle.gate_rivals.specs.Rivals.{staying_beside}
use Rattle.gate_package.specs.Together.{replaces_some, together_of}
use Rattle.gate_diagram.specs.declared.Price.{Price}

-- a transaction has the first try of A36 without room for what it replaces, A50 asks nothing of it, and no entry has one of its ids
pub record IsPlain (max_rate : ℕ) (over : Standing) (tx : Tx) : Type 0 where
  pub first_try : is_within (usual_limits over.policy) over.entries (ancestors_above over.entries tx.inputs) (grant_of First over tx).vsize ≡ true
  pub rate : first_failing (rate_rules max_rate (grant_of First over tx).fee (grant_of First over tx).vsize) ≡ None
  pub new : entry_by_txid over.entries (txid_of tx) ≡ None
  pub new_witness : entry_by_wtxid over.entries (wtxid_of tx) ≡ None

-- what becomes of a package of one is the decision on its submission
abbrev pub IsAs : Result Grant Denial → List Member → Type 0
IsAs (Ok grant) members = (replaced : List (List ℕ)) × (tx : Tx) × (members ≡ record { txid = txid_of tx; wtxid = wtxid_of tx; fate = Taken grant.fee grant.vsize false replaced } ∷ []) × (length replaced ≡ grant.replaced)
IsAs (Err denial) members = (tx : Tx) × (members ≡ record { txid = txid_of tx; wtxid = wtxid_of tx; fate = Denied denial } ∷ [])

-- a package of one is its submission, but that expiry and trim follow a denial, too
pub record PackageOfOne : Type 0 where
  pub decision : (max_rate : ℕ) (over : Standing) (tx : Tx) (now budget : ℕ) → IsPlain max_rate over tx → list_any (λ x. true) tx.inputs ≡ true
      → IsAs (submit_of over (Some tx) now budget).decision (packaged_of max_rate over (tx ∷ []) now budget).outcome.members
  pub entries : (max_rate : ℕ) (over : Standing) (tx : Tx) (now budget : ℕ) (grant : Grant) → IsPlain max_rate over tx → list_any (λ x. true) tx.inputs ≡ true
      → decision_of First over (Some tx) ≡ Ok grant → (packaged_of max_rate over (tx ∷ []) now budget).entries ≡ (submit_of over (Some tx) now budget).entries

-- those that are judged together enter all or none: the entries that a package is judged to leave are those of its members one by one,
-- or without what those replace, and behind them one newcomer for each of those
abbrev pub TogetherAllOrNone : Type 0
TogetherAllOrNone =
    (max_rate : ℕ) (over : Standing) (now : ℕ) (txs : List Tx)
    → ((judged_of max_rate over now txs).entries ≡ (course_of max_rate over now txs).entries)
    ⊎ ((these : List Tx) × (prices : List Price) × (more : List Admitted)
    × (together_of max_rate (record over { entries = (course_of max_rate over now txs).entries }) these ≡ Ok prices)
    × ((judged_of max_rate over now txs).entries ≡ staying_beside (course_of max_rate over now txs).entries these ++ more) × (length more ≡ length these))

abbrev pub is_known : Fate → Type 0
is_known (Taken fee vsize together replaced) = ⊥
is_known (Known fee vsize) = Unit {0}
is_known (OtherWitness wtxid) = Unit {0}
is_known (Denied denial) = ⊥

-- after a package that is a success, the same package finds each member known, and changes nothing, if nothing has stayed too long by
-- then
abbrev pub KnownAgain : Type 0
KnownAgain =
    (max_rate : ℕ) (over : Standing) (txs : List Tx) (now later budget : ℕ)
    → (packaged_of max_rate over txs now budget).outcome.verdict ≡ verdicts.Success
    → expired over.policy.stay later (packaged_of max_rate over txs now budget).entries ≡ (packaged_of max_rate over txs now budget).entries
    → let after = packaged_of max_rate over txs now budget in
    let again = packaged_of max_rate (record over { entries = after.entries; floor = after.floor }) txs later budget in
    (again.outcome.verdict ≡ verdicts.Success) × (again.entries ≡ after.entries) × (again.floor ≡ after.floor) × All (λ (m : Member). is_known m.fate) again.outcome.members

-- each package of what no connected block has keeps a good pool good
abbrev pub PackageKeepsGood : Type 0
PackageKeepsGood =
    (max_rate : ℕ) (over : Standing) (txs : List Tx) (now budget : ℕ)
    → All (λ (tx : Tx). IsUnconnected over.chain (Some tx)) txs → IsGood (limits_for over.policy budget) over.chain over.entries
    → IsGood (limits_for over.policy budget) over.chain (packaged_of max_rate over txs now budget).entries

-- where version 3 is standard, each package of what no connected block has keeps its families small in a good pool
abbrev pub PackageKeepsTruc : Type 0
PackageKeepsTruc =
    (max_rate : ℕ) (over : Standing) (txs : List Tx) (now budget : ℕ) → over.policy.standards.truc ≡ true
    → All (λ (tx : Tx). IsUnconnected over.chain (Some tx)) txs → IsGood (limits_for over.policy budget) over.chain over.entries → TrucHolds over.entries
    → TrucHolds (packaged_of max_rate over txs now budget).entries

-- those that enter together in the place of entries pay more than these, by the fee of their own size at the incremental relay
-- feerate: so much more the pool's fees are, before entries expire and are trimmed
abbrev pub ReplacementPays : Type 0
ReplacementPays =
    (max_rate : ℕ) (over : Standing) (now : ℕ) (txs : List Tx) (prices : List Price) → together_of max_rate over txs ≡ Ok prices → replaces_some over.entries txs ≡ true
    → fees_of over.entries + required_fee (incremental_feerate over.policy) (price_sum_size prices) ≤ fees_of (entered_together over.entries now txs prices)
