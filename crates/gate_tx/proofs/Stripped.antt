-- Two transactions with one form without witnesses are the same but for their witnesses.
use Rattle.std.proofs.Common.{◌≡◌, false, List, [], ◌∷◌, map, refl, sym, ap, ◌∙◌, arith}
use Rattle.std.specs.List.{list_any, AllByRecursion}
use Rattle.std.proofs.lemmas.List.{append-nil}
use Rattle.gate_tx.specs.declared.transaction.OutPoint.{OutPoint}
use Rattle.gate_tx.specs.declared.transaction.TxIn.{TxIn}
use Rattle.gate_tx.specs.Tx.{Tx}
use Rattle.gate_tx.specs.Text.{is_nonempty, stripped, text, IsInput, IsWitness, IsTx}
use Rattle.gate_tx.specs.Laws.{without_witness, unwitnessed, prevouts, StrippedFormsStandApart, StrippedFormsSpendTheSame}
use Rattle.gate_tx.proofs.Whole.{flat_map-bared, length-bared}
use Rattle.gate_tx.proofs.Again.{no_prefix}

none_full : (is : List TxIn) → list_any (λ i. is_nonempty i.witness) (map without_witness is) ≡ false
none_full [] = refl
none_full (i ∷ is) = none_full is

inputs_kept : (is : List TxIn) → AllByRecursion IsInput is → AllByRecursion IsInput (map without_witness is)
inputs_kept [] all = tt
inputs_kept (i ∷ is) all = (record { txid = all.0.txid; index = all.0.index; script = all.0.script; sequence = all.0.sequence }, inputs_kept is all.1)

witnesses_emptied : (is : List TxIn) → AllByRecursion IsWitness (map without_witness is)
witnesses_emptied [] = tt
witnesses_emptied (i ∷ is) = (record { count = omega arith; items = tt }, witnesses_emptied is)

none_before : (is : List TxIn) → map without_witness is ≡ [] → is ≡ []
none_before [] e = refl
none_before (i ∷ is) e = absurd cc

pub IsTx-unwitnessed : (t : Tx) → IsTx t → IsTx (unwitnessed t)
IsTx-unwitnessed t is = record {
  version = is.version;
  input_count = rw (length-bared t.inputs) is.input_count;
  inputs = inputs_kept t.inputs is.inputs;
  witnesses = witnesses_emptied t.inputs;
  output_count = is.output_count;
  outputs = is.outputs;
  locktime = is.locktime;
  shape = λ none. is.shape (none_before t.inputs none);
}

-- the form without witnesses says nothing of them
pub stripped-unwitnessed : (t : Tx) → stripped (unwitnessed t) ≡ stripped t
stripped-unwitnessed t = rw (length-bared t.inputs, flat_map-bared t.inputs) refl

pub text-unwitnessed : (t : Tx) → text (unwitnessed t) ≡ stripped t
text-unwitnessed t = rw (none_full t.inputs) (stripped-unwitnessed t)

pub stripped_same : (a b : Tx) → IsTx a → IsTx b → stripped a ≡ stripped b → unwitnessed a ≡ unwitnessed b
stripped_same a b is_a is_b e =
    (no_prefix (unwitnessed a) (unwitnessed b) [] (IsTx-unwitnessed a is_a) (IsTx-unwitnessed b is_b) (append-nil (text (unwitnessed a)) ∙ text-unwitnessed a ∙ e ∙ sym (text-unwitnessed b))).0

pub same_stripped : (a b : Tx) → unwitnessed a ≡ unwitnessed b → stripped a ≡ stripped b
same_stripped a b e = sym (stripped-unwitnessed a) ∙ ap stripped e ∙ stripped-unwitnessed b

pub stripped_forms_stand_apart : StrippedFormsStandApart
stripped_forms_stand_apart a b is_a is_b = (stripped_same a b is_a is_b, same_stripped a b)

prevouts_of : (is : List TxIn) → map (λ (i : TxIn). i.prevout) (map without_witness is) ≡ map (λ (i : TxIn). i.prevout) is
prevouts_of [] = refl
prevouts_of (i ∷ is) = ap (λ (ps : List OutPoint). i.prevout ∷ ps) (prevouts_of is)

-- nor of what is spent
pub prevouts-unwitnessed : (t : Tx) → prevouts (unwitnessed t) ≡ prevouts t
prevouts-unwitnessed t = prevouts_of t.inputs

pub stripped_forms_spend_the_same : StrippedFormsSpendTheSame
stripped_forms_spend_the_same a b is_a is_b e = sym (prevouts-unwitnessed a) ∙ ap prevouts (stripped_same a b is_a is_b e) ∙ prevouts-unwitnessed b
