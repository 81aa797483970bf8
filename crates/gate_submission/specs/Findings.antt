-- What is found of a submission alone, whatever an operator sets.
use Rattle.std.specs.Prelude.{◌≡◌, Option, Some, None}
use Rattle.gate_bytes.specs.Order.{first_failing}
use Rattle.gate_tx.specs.Tx.{Tx}
use Rattle.gate_standard.specs.Rules.{transaction_rules, form_rules}
use Rattle.gate_submission.specs.declared.prepared.Findings.{Findings}

-- the first of A2 to A11 that fails; and if none does, the first of A13 to A15 that fails
pub record AreFindings (found : Findings) (tx : Tx) : Type 0 where
  pub transaction : found.transaction ≡ first_failing (transaction_rules tx)
  pub form : found.transaction ≡ None → found.form ≡ first_failing (form_rules tx)

-- nothing is said of bytes that spell no transaction
abbrev pub AreFindingsOf : Findings → Option Tx → Type 0
AreFindingsOf found None = Unit {0}
AreFindingsOf found (Some tx) = AreFindings found tx
