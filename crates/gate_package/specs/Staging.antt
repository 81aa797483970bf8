-- A package whose members stand in a pool, before it lands.
use Rattle.std.specs.Prelude.{◌≡◌, ℕ, List}
use Rattle.gate_tx.specs.Tx.{Tx}
use Rattle.gate_submission.specs.declared.PackageOutcome.{PackageOutcome}
use Rattle.gate_pool.specs.Pool.{Admitted}
use Rattle.gate_admit.specs.Standing.{Standing}
use Rattle.gate_package.specs.Packages.{held_txids, judged_of}

-- a package that stands in a pool: the txids of the members that are held
pub record Staged : Type 0 where
  pub held : List (List ℕ)

-- a package over this standing was staged, with this outcome, and the pool has these entries meanwhile: landing leaves what it is
-- judged to leave
pub record StagesAs (max_rate : ℕ) (over : Standing) (now : ℕ) (txs : List Tx) (outcome : PackageOutcome) (stage : Staged) (meanwhile : List Admitted) : Type 0 where
  pub judged : judged_of max_rate over now txs ≡ record { outcome = outcome; entries = meanwhile }
  pub held : stage.held ≡ held_txids outcome.members
