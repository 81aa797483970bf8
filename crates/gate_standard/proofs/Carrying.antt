-- Rules that are taken output by output: where one output fails, and where one passes.
use Rattle.std.proofs.Common.{◌≡◌, ◌<◌, ◌+◌, ℕ, suc, List, ◌∷◌, length, get_or, drop, Option, Some, None, sym, ap, ◌∙◌, add-one, drop-cons}
use Rattle.gate_bytes.specs.Order.{first_failing}
use Rattle.gate_bytes.proofs.OrderLemmas.{found_in_first, found_in_second}
use Rattle.gate_tx.specs.declared.TxOut.{TxOut}
use Rattle.gate_standard.specs.Outputs.{carries_data}
use Rattle.gate_standard.specs.Rules.{left_behind, rules_of_output, rules_of_outputs}
use Rattle.gate_rules.specs.declared.Denial.{Denial}
use Rattle.gate_standard.specs.declared.standards.Standards.{Standards}

pub output_fails : (standards : Standards) (left : Option ℕ) (outputs : List TxOut) (i : ℕ) (o : TxOut) (denial : Denial) → i < length outputs → o ≡ get_or outputs i o
    → first_failing (rules_of_output standards left o) ≡ Some denial → first_failing (rules_of_outputs standards left (drop i outputs)) ≡ Some denial
output_fails standards left outputs i o denial l is fails =
    ap (λ os. first_failing (rules_of_outputs standards left os)) (drop-cons outputs i o l ∙ ap (λ p. p ∷ drop (suc i) outputs) (sym is))
    ∙ found_in_first (rules_of_output standards left o) (rules_of_outputs standards (left_behind left (carries_data o) (length o.script)) (drop (suc i) outputs)) denial fails

pub output_passes : (standards : Standards) (left next : Option ℕ) (outputs : List TxOut) (i : ℕ) (o : TxOut) → i < length outputs → o ≡ get_or outputs i o
    → first_failing (rules_of_output standards left o) ≡ None → next ≡ left_behind left (carries_data o) (length o.script)
    → first_failing (rules_of_outputs standards left (drop i outputs)) ≡ first_failing (rules_of_outputs standards next (drop (i + 1) outputs))
output_passes standards left next outputs i o l is passes behind =
    ap (λ os. first_failing (rules_of_outputs standards left os)) (drop-cons outputs i o l ∙ ap (λ p. p ∷ drop (suc i) outputs) (sym is))
    ∙ found_in_second (rules_of_output standards left o) (rules_of_outputs standards (left_behind left (carries_data o) (length o.script)) (drop (suc i) outputs)) passes
    ∙ ap (λ n. first_failing (rules_of_outputs standards n (drop (suc i) outputs))) (sym behind)
    ∙ ap (λ k. first_failing (rules_of_outputs standards next (drop k outputs))) (sym (add-one i))
