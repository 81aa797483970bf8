-- The answers as they are kept: cost and count are at most the greatest number of 64 bits.
use Rattle.std.specs.Prelude.{ℕ, ◌-◌, ◌^◌, List, min}
use Rattle.gate_script.specs.Witness.{is_anchor}
use Rattle.gate_tx.specs.declared.transaction.TxIn.{TxIn}
use Rattle.gate_inputs.specs.declared.answer.Answers.{Answers}
use Rattle.gate_inputs.specs.Reports.{is_bare, is_standard_spend, is_witness_standard, legacy_sigops_of, sigop_cost_of}

-- the answers for an input that spends a coin of this script
unfoldable pub answers_of : TxIn → List ℕ → Answers
answers_of input script = record {
  standard = is_standard_spend input script;
  witness_standard = is_witness_standard input script;
  sigop_cost = min (sigop_cost_of input script) (2 ^ 64 - 1);
  anchor = is_anchor script;
  bare = is_bare input.witness;
  legacy_sigops = min (legacy_sigops_of input script) (2 ^ 64 - 1);
}
