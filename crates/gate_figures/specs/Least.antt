-- The least fee of a submission.
use Rattle.std.specs.Prelude.{◌≡◌, ◌<◌, ◌^◌, ◌++◌, ℕ, nat_le, Bool, false, is_none, List, Option, Some, None}
use Rattle.gate_bytes.specs.Order.{Rule, first_failing}
use Rattle.gate_tx.specs.Tx.{Tx}
use Rattle.gate_rules.specs.declared.Denial.{Denial}
use Rattle.gate_pool.specs.Pool.{Admitted}
use Rattle.gate_rbf.specs.Replacing.{replacement_rules}
use Rattle.gate_admit.specs.declared.attempt.Attempt.TheVariants.{First}
use Rattle.gate_admit.specs.Limits.{limit_rules}
use Rattle.gate_admit.specs.Policies.{Policy, incremental_feerate}
use Rattle.gate_admit.specs.Rules.{fee_rules}
use Rattle.gate_admit.specs.Standing.{Standing}
use Rattle.gate_admit.specs.Truc.{sibling_of}
use Rattle.gate_figures.specs.Figures.{vsize_at}

-- none of these rules fails
abbrev pub passes : List (Rule Denial) → Bool
passes rules = is_none (first_failing rules)

-- A34 to A42, over a pool with this floor, on a transaction of this size that pays this fee
abbrev pub fee_side : Policy → ℕ → List Admitted → Tx → ℕ → ℕ → List (Rule Denial)
fee_side policy floor entries tx vsize fee =
    fee_rules policy tx floor fee vsize
    ++ (limit_rules First policy entries tx vsize ++ replacement_rules (incremental_feerate policy) policy.parents entries (sibling_of First policy entries tx) tx fee vsize)

-- what is found of a test of fees: a number, if the fees that pass are exactly those from it on; none, if no fee passes that 64 bits
-- hold
abbrev pub IsLeast : (ℕ → Bool) → Option ℕ → Type 0
IsLeast test (Some least) = (fee : ℕ) → test fee ≡ nat_le least fee
IsLeast test None = (fee : ℕ) → fee < 2 ^ 64 → test fee ≡ false

-- the least fee of a transaction of this size. One with too many signature operations has no size here, and no least fee
abbrev pub IsLeastFee : Policy → ℕ → List Admitted → Tx → Option ℕ → Option ℕ → Type 0
IsLeastFee policy floor entries tx None found = found ≡ None
IsLeastFee policy floor entries tx (Some vsize) found = IsLeast (λ fee. passes (fee_side policy floor entries tx vsize fee)) found

-- the least fee of a submission; what spells no transaction has none
abbrev pub IsLeastFor : Standing → Option Tx → Option ℕ → Type 0
IsLeastFor over None found = found ≡ None
IsLeastFor over (Some tx) found = IsLeastFee over.policy over.floor over.entries tx (vsize_at over.policy.sigop_size over.chain over.entries tx) found

-- the least fee of the submission that an event makes; an event that makes none has none
abbrev pub LeastFeeFound : Standing → Option (Option Tx) → Option ℕ → Type 0
LeastFeeFound over None found = found ≡ None
LeastFeeFound over (Some submission) found = IsLeastFor over submission found
