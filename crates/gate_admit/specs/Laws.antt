-- Laws of the decision and of submissions.
use Rattle.std.specs.Prelude.{◌≡◌, ◌≤◌, ◌+◌, true, false, ℕ, List, [], Contains, Option, Some, Result, Ok, Err}
use Rattle.std.specs.List.{All, list_any}
use Rattle.gate_bytes.specs.Order.{Rule, NoneFails, IsFirstFailing}
use Rattle.gate_tx.specs.Tx.{Tx}
use Rattle.gate_tx.specs.Ids.{txid_of}
use Rattle.gate_standard.specs.Amounts.{required_fee}
use Rattle.gate_rules.specs.declared.Denial.{Denial}
use Rattle.gate_rules.specs.declared.Denial.TheVariants.{MempoolFull}
use Rattle.gate_chain.specs.History.{History}
use Rattle.gate_pool.specs.Pool.{Admitted}
use Rattle.gate_pool.specs.Counting.{is_counted, replaced_beside}
use Rattle.gate_pool.specs.Family.{fees_of}
use Rattle.gate_trim.specs.Expiry.{expired as expired_of}
use Rattle.gate_trim.specs.Laws.{IsYoung}
use Rattle.gate_trim.specs.Trimming.{trim_of}
use Rattle.gate_admit.specs.declared.attempt.Attempt.{Attempt}
use Rattle.gate_admit.specs.declared.attempt.Attempt.TheVariants.{First}
use Rattle.gate_admit.specs.declared.grant.Grant.{Grant}
use Rattle.gate_admit.specs.Policies.{Policy, IsPolicy, incremental_feerate}
use Rattle.gate_admit.specs.Limits.{are_limited, fits_again, fits_among}
use Rattle.gate_admit.specs.Good.{Limits, IsGood, IsUnconnected, limits_for}
use Rattle.gate_admit.specs.Granting.{IsGrantable, Conserves, PaysItsSize, Replaces}
use Rattle.gate_admit.specs.Rules.{admission_rules, decision_of}
use Rattle.gate_admit.specs.Standing.{Standing}
use Rattle.gate_admit.specs.Truc.{TrucHolds, sibling_of}
use Rattle.gate_admit.specs.Submission.{holds, submit_of}

-- a grant says that none of the rules fails, and a denial names one that fails, with none failing before it
abbrev pub Follows : List (Rule Denial) → Result Grant Denial → Type 0
Follows rules (Ok grant) = NoneFails rules
Follows rules (Err denial) = IsFirstFailing rules denial

-- each decision on a transaction follows the written order
abbrev pub DecisionsFollow : Type 0
DecisionsFollow = (attempt : Attempt) (over : Standing) (tx : Tx) → Follows (admission_rules attempt over tx) (decision_of attempt over (Some tx))

-- what is granted spends live coins and conserves value; at its first attempt it pays for its size
pub record GrantsAreSound : Type 0 where
  pub live : (attempt : Attempt) (over : Standing) (tx : Tx) (grant : Grant) → decision_of attempt over (Some tx) ≡ Ok grant → IsGrantable over tx
  pub conserve : (attempt : Attempt) (over : Standing) (tx : Tx) (grant : Grant) → decision_of attempt over (Some tx) ≡ Ok grant → Conserves over tx grant
  pub paid : (over : Standing) (tx : Tx) (grant : Grant) → decision_of First over (Some tx) ≡ Ok grant → PaysItsSize over grant

-- what BIP 125 is for: what is granted and conflicts with an entry, or evicts its sibling, pays for all that it replaces
abbrev pub ReplacementsPay : Type 0
ReplacementsPay =
    (attempt : Attempt) (over : Standing) (tx : Tx) (grant : Grant) → decision_of attempt over (Some tx) ≡ Ok grant → list_any (is_counted (sibling_of attempt over.policy over.entries tx) tx) over.entries ≡ true → Replaces attempt over tx grant

-- the sibling is among what is replaced, and the fee is at least the fees of all that is replaced, and above these what the transaction
-- pays for its own relay
pub record PaysForSibling (over : Standing) (tx : Tx) (grant : Grant) (txid : List ℕ) : Type 0 where
  pub leaves : (s : Admitted) × Contains (replaced_beside over.entries (Some txid) tx) s × (txid_of s.tx ≡ txid)
  pub paid : fees_of (replaced_beside over.entries (Some txid) tx) + required_fee (incremental_feerate over.policy) grant.vsize ≤ grant.fee

-- a granted transaction that evicts the entry of this id pays for it
abbrev pub SiblingsPay : Type 0
SiblingsPay =
    (over : Standing) (tx : Tx) (grant : Grant) (txid : List ℕ) → decision_of First over (Some tx) ≡ Ok grant → sibling_of First over.policy over.entries tx ≡ Some txid → PaysForSibling over tx grant txid

-- what a grant says of the pool after it, and what A46 does
pub record GrantsStand : Type 0 where
  -- what is granted is in the pool, and each entry came no longer ago than it may stay
  pub held : (over : Standing) (tx : Tx) (now budget : ℕ) (grant : Grant) → (submit_of over (Some tx) now budget).decision ≡ Ok grant → holds (submit_of over (Some tx) now budget).entries (txid_of tx) ≡ true
  pub young : (over : Standing) (tx : Tx) (now budget : ℕ) (grant : Grant) → (submit_of over (Some tx) now budget).decision ≡ Ok grant
      → All (IsYoung over.policy.stay now) (submit_of over (Some tx) now budget).entries
  -- what passes every rule and is denied is not in the pool
  pub gone : (over : Standing) (tx : Tx) (now budget : ℕ) (grant : Grant) → decision_of First over (Some tx) ≡ Ok grant → (submit_of over (Some tx) now budget).decision ≡ Err MempoolFull
      → holds (submit_of over (Some tx) now budget).entries (txid_of tx) ≡ false

-- in a pool whose families are within the limits, asking the family of a transaction that comes back is asking every entry
abbrev pub ReadmissionsAskOfAll : Type 0
ReadmissionsAskOfAll =
    (policy : Policy) (entries : List Admitted) (tx : Tx) (vsize : ℕ) → are_limited policy entries entries ≡ true
    → fits_again policy entries tx vsize ≡ fits_among policy entries tx vsize

-- no submission lowers the floor
abbrev pub FloorsNeverFall : Type 0
FloorsNeverFall = (over : Standing) (tx : Option Tx) (now budget : ℕ) → over.floor ≤ (submit_of over tx now budget).floor

-- under a policy within its bounds a pool without entries is good, and each submission of what no connected block has keeps a good pool good under its policy
pub record PoolsStayGood : Type 0 where
  pub empty : (limits : Limits) (chain : History) → IsPolicy limits.policy → IsGood limits chain []
  pub kept : (over : Standing) (tx : Option Tx) (now budget : ℕ)
      → IsUnconnected over.chain tx → IsGood (limits_for over.policy budget) over.chain over.entries
      → IsGood (limits_for over.policy budget) over.chain (submit_of over tx now budget).entries

-- families of version 3 are small in a pool without entries, and stay so by expiry, by trim, and, where version 3 is standard, by each
-- submission to a good pool of what no connected block has
pub record TrucIsKept : Type 0 where
  pub empty : TrucHolds []
  pub expired : (stay now : ℕ) (entries : List Admitted) → TrucHolds entries → TrucHolds (expired_of stay now entries)
  pub trimmed : (rate budget : ℕ) (entries : List Admitted) (floor : ℕ) → TrucHolds entries → TrucHolds (trim_of rate budget entries floor).entries
  pub submitted : (over : Standing) (tx : Option Tx) (now budget : ℕ) → over.policy.standards.truc ≡ true
      → IsUnconnected over.chain tx → IsGood (limits_for over.policy budget) over.chain over.entries → TrucHolds over.entries
      → TrucHolds (submit_of over tx now budget).entries
