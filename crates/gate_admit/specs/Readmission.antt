-- A re-admission: what the pool is after the decision on a transaction that is tried again.
use Rattle.std.specs.Prelude.{ℕ, List, Option, Some, None, Result, Ok, Err}
use Rattle.gate_tx.specs.Tx.{Tx}
use Rattle.gate_rules.specs.declared.Denial.{Denial}
use Rattle.gate_pool.specs.Pool.{Admitted}
use Rattle.gate_pool.specs.Family.{entered}
use Rattle.gate_admit.specs.declared.grant.Grant.{Grant}
use Rattle.gate_admit.specs.Submission.{admitted}

-- what is granted enters at this second, even if entries spend its outputs, in place of what it replaces; a denial changes nothing
abbrev pub readmitted : List Admitted → Option Tx → ℕ → Result Grant Denial → List Admitted
readmitted entries (Some tx) now (Ok grant) = entered entries (admitted tx grant now)
readmitted entries None now (Ok grant) = entries
readmitted entries tx now (Err denial) = entries
