-- The budget and the floor behind a package.
use Rattle.std.proofs.Common.{◌≤◌, ℕ, List, Option, Some, None, arith}
use Rattle.gate_bytes.specs.Order.{first_failing}
use Rattle.gate_tx.specs.Tx.{Tx}
use Rattle.gate_rules.specs.declared.PackageDenial.{PackageDenial}
use Rattle.gate_pool.specs.Pool.{size_of}
use Rattle.gate_trim.specs.Expiry.{expired}
use Rattle.gate_trim.proofs.Trimmings.{trim_rises, trim_within}
use Rattle.gate_admit.specs.Standing.{Standing}
use Rattle.gate_package.specs.Packages.{judged_of, landed, packaged_of, unless_unfit}
use Rattle.gate_package.specs.Shapes.{shape_rules}

-- entries that are within the budget stay so
pub package_within : (max_rate : ℕ) (over : Standing) (txs : List Tx) (now budget : ℕ) → size_of over.entries ≤ budget → size_of (packaged_of max_rate over txs now budget).entries ≤ budget
unfolding packaged_of landed
package_within max_rate over txs now budget h = by (first_failing (shape_rules over.chain over.policy txs))
  where
    by : (found : Option PackageDenial) → size_of (unless_unfit found over (landed over now budget (judged_of max_rate over now txs))).entries ≤ budget
    by (Some denial) = h
    by None = trim_within over.policy.incremental_rate budget (expired over.policy.stay now (judged_of max_rate over now txs).entries) over.floor

-- the floor doesn't fall
pub package_rises : (max_rate : ℕ) (over : Standing) (txs : List Tx) (now budget : ℕ) → over.floor ≤ (packaged_of max_rate over txs now budget).floor
unfolding packaged_of landed
package_rises max_rate over txs now budget = by (first_failing (shape_rules over.chain over.policy txs))
  where
    by : (found : Option PackageDenial) → over.floor ≤ (unless_unfit found over (landed over now budget (judged_of max_rate over now txs))).floor
    by (Some denial) = omega arith
    by None = trim_rises over.policy.incremental_rate budget (expired over.policy.stay now (judged_of max_rate over now txs).entries) over.floor
