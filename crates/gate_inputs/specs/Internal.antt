-- Steps between the code and the definitions, which clauses of private functions alone name.
use Rattle.std.specs.Prelude.{ℕ, ◌+◌, ◌*◌, ◌-◌, ◌^◌, false, true, List, Option, min}
use Rattle.gate_tx.specs.declared.transaction.TxIn.{TxIn}
use Rattle.gate_script.specs.declared.templates.Template.{Template}
use Rattle.gate_script.specs.Sigops.{sigops_of}
use Rattle.gate_script.specs.Witness.{is_anchor}
use Rattle.gate_inputs.specs.declared.answer.Answers.{Answers}
use Rattle.gate_inputs.specs.Reports.{is_bare, is_standard_by, program_by, allows_witness, cost_by, legacy_sigops_by, witness_cost}

-- the answers from the coin's template, the redeem script under a script hash, and the coin's script otherwise
unfoldable pub answers_by : Template → TxIn → Option (List ℕ) → List ℕ → Answers
answers_by form input redeem script = record {
  standard = is_standard_by form redeem;
  witness_standard = allows_witness form input.witness (program_by form redeem script);
  sigop_cost = min (cost_by input redeem (program_by form redeem script)) (2 ^ 64 - 1);
  anchor = is_anchor script;
  bare = is_bare input.witness;
  legacy_sigops = min (legacy_sigops_by form input.script redeem script) (2 ^ 64 - 1);
}

-- the cost as a machine number, from how many operations the redeem script has
abbrev pub cost_with : TxIn → ℕ → Option (ℕ × List ℕ) → ℕ
cost_with input redeem program = min (4 * sigops_of false input.script + 4 * redeem + witness_cost input.witness program) (2 ^ 64 - 1)

-- the legacy operations as a machine number, from how many operations the locking script has
abbrev pub legacy_with : List ℕ → ℕ → ℕ
legacy_with script locking = min (sigops_of true script + locking) (2 ^ 64 - 1)
