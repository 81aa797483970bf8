-- Which fault the reader answers.
use Rattle.std.proofs.Common.{◌≡◌, ◌≢◌, ℕ, ℤ, false, eqb, List, [], ◌∷◌, ◌++◌, length, Err, refl, ap, ◌∙◌, append_assoc, arith}
use Rattle.std.specs.List.{flat_map}
use Rattle.std.proofs.lemmas.Bool.{lt-ltb, le-ltb}
use Rattle.std.proofs.lemmas.Bool.Decides.{nat_tests}
use Rattle.gate_tx.specs.declared.transaction.TxIn.{TxIn}
use Rattle.gate_tx.specs.declared.transaction.TxOut.{TxOut}
use Rattle.gate_tx.specs.declared.fault.TxFault.TheVariants.{EmptyWitness}
use Rattle.gate_tx.specs.Text.{vector, input, output, witness, has_witness, text, longest, IsOutput, IsTx}
use Rattle.gate_tx.specs.Reading.{extended_at, tx_at, all_of, output_at}
use Rattle.gate_tx.specs.Laws.{MoreIsTrailing, LongIsTooLarge, EmptyWitnessesAreRefused, before_locktime}
use Rattle.gate_tx.proofs.Steps.{list_again}
use Rattle.gate_tx.proofs.Fields.{outputs_law, witnesses_again}
use Rattle.gate_tx.proofs.Whole.{made, version_text}
use Rattle.gate_tx.proofs.Again.{bare_list, behind_zero_flagged, tx_zero, tx_again}

pub long_is_too_large : LongIsTooLarge
unfolding all_of
long_is_too_large bytes lt = rw (lt-ltb longest (length bytes) lt) refl

not_nothing : (rest : List ℕ) → rest ≢ [] → eqb (length rest) 0 ≡ false
not_nothing [] h = absurd (h refl)
not_nothing (b ∷ rest) h = grind (arith, nat_tests)

pub more_is_trailing : MoreIsTrailing
unfolding all_of
more_is_trailing t rest is some le =
    rw (le-ltb longest (length (text t ++ rest)) le, tx_again t rest is) (rw (not_nothing rest some) refl)

flagged_empty : (v : ℤ) (ins : List TxIn) (outs : List TxOut) (lock : ℕ) (rest : List ℕ) → IsTx (made v ins outs lock) → has_witness (made v ins outs lock) ≡ false
    → extended_at v (vector input ins ++ (vector output outs ++ (flat_map witness ins ++ rest))) ≡ Err EmptyWitness
unfolding extended_at
flagged_empty v ins outs lock rest is has =
    let behind = vector output outs ++ (flat_map witness ins ++ rest) in
    rw (bare_list ins behind is.input_count is.inputs, list_again output_at output IsOutput outputs_law outs (flat_map witness ins ++ rest) is.output_count is.outputs, witnesses_again ins rest is.witnesses) (rw has refl)

regroup : (a b c d rest : List ℕ) → (a ++ (0 ∷ 1 ∷ (b ++ (c ++ d)))) ++ rest ≡ a ++ (0 ∷ 1 ∷ (b ++ (c ++ (d ++ rest))))
regroup a b c d rest = simp append_assoc

empty_at : (v : ℤ) (ins : List TxIn) (outs : List TxOut) (lock : ℕ) (rest : List ℕ) → IsTx (made v ins outs lock) → has_witness (made v ins outs lock) ≡ false
    → tx_at (before_locktime (made v ins outs lock) ++ rest) ≡ Err EmptyWitness
empty_at v ins outs lock rest is has =
    let behind = vector input ins ++ (vector output outs ++ (flat_map witness ins ++ rest)) in
    ap tx_at (regroup (version_text v) (vector input ins) (vector output outs) (flat_map witness ins) rest) ∙ tx_zero v (1 ∷ behind) is.version ∙ behind_zero_flagged v behind ∙ flagged_empty v ins outs lock rest is has

pub empty_witnesses_are_refused : EmptyWitnessesAreRefused
unfolding all_of
empty_witnesses_are_refused t rest is has le =
    rw (le-ltb longest (length (before_locktime t ++ rest)) le, empty_at t.version t.inputs t.outputs t.locktime rest is has) refl
