-- What an input's signature operations cost and count never reaches the bound of the number that keeps it.
use Rattle.std.specs.Prelude.{◌≡◌, ◌≤◌, ℕ, List, length}
use Rattle.gate_tx.specs.declared.transaction.TxIn.{TxIn}
use Rattle.gate_tx.specs.Text.{IsInput, IsWitness}
use Rattle.gate_inputs.specs.Answers.{answers_of}
use Rattle.gate_inputs.specs.Reports.{legacy_sigops_of, sigop_cost_of}

-- the cost that is kept is exact for any input that a transaction has
abbrev pub CostsAreExact : Type 0
CostsAreExact = (input : TxIn) (script : List ℕ) → IsInput input → IsWitness input → (answers_of input script).sigop_cost ≡ sigop_cost_of input script

-- and so is the count, for a coin's script as long as one may be
abbrev pub LegacySigopsAreExact : Type 0
LegacySigopsAreExact = (input : TxIn) (script : List ℕ) → IsInput input → length script ≤ 0x2000000 → (answers_of input script).legacy_sigops ≡ legacy_sigops_of input script
