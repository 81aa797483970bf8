-- The final transaction of a PSBT: the unsigned one with the final scripts and witnesses of its inputs.
use Rattle.std.specs.Prelude.{◌≡◌, ◌⊎◌, ℕ, suc, List, [], ◌∷◌, ◌++◌, Option, Some, None, Result, Ok, Err, if◌then◌else◌}
use Rattle.std.specs.Global.{Vec}
use Rattle.gate_tx.specs.declared.transaction.TxIn.{TxIn}
use Rattle.gate_tx.specs.Text.{IsRefused}
use Rattle.gate_tx.specs.Tx.{Tx}
use Rattle.gate_psbt.specs.declared.fault.PartFault.TheVariants as faults
use Rattle.gate_psbt.specs.declared.fault.Place.TheVariants as places
use Rattle.gate_psbt.specs.declared.fault.PsbtFault.{PsbtFault}
use Rattle.gate_psbt.specs.declared.fault.PsbtFault.TheVariants as whole
use Rattle.gate_psbt.specs.declared.input.PsbtInput.{PsbtInput}
use Rattle.gate_psbt.specs.declared.psbt.Psbt.{Psbt}
use Rattle.gate_psbt.specs.Faults.{◌>>=◌, FailsWhole}
use Rattle.gate_psbt.specs.Inputs.{is_final}

abbrev pub or_empty : {X : Type 0} → Option (List X) → List X
or_empty None = []
or_empty (Some xs) = xs

-- an input with its final script and witness
abbrev pub finish : TxIn → PsbtInput → TxIn
finish input said = record input { script = or_empty said.script; witness = or_empty said.witness }

-- these inputs, the first at this place, behind what was finished before
unfoldable pub finished_at : ℕ → List TxIn → List TxIn → List PsbtInput → Result (List TxIn) PsbtFault
finished_at place before [] said = Ok before
finished_at place before (input ∷ inputs) [] = Err (whole.At (places.Input place) faults.NotFinal)
finished_at place before (input ∷ inputs) (it ∷ said) =
    if is_final it then finished_at (suc place) (before ++ finish input it ∷ []) inputs said else Err (whole.At (places.Input place) faults.NotFinal)

-- the unsigned transaction with these inputs
abbrev pub with_inputs : Tx → List TxIn → Tx
with_inputs tx inputs = record { version = tx.version; inputs = inputs; outputs = tx.outputs; locktime = tx.locktime }

unfoldable pub finished_of : Psbt → Result Tx PsbtFault
finished_of psbt = do
  inputs ← finished_at 0 [] psbt.unsigned.inputs psbt.inputs
  Ok (with_inputs psbt.unsigned inputs)

-- what a call that answers a Vec finished
abbrev pub FinishesInto : Result (Vec TxIn) PsbtFault → Result (List TxIn) PsbtFault → Type 0
FinishesInto (Ok all) done = done ≡ Ok all.items
FinishesInto (Err e) done = FailsWhole e done

-- the final transaction would be none: its text is too long
abbrev pub IsTooLong : Result Tx PsbtFault → Type 0
IsTooLong (Ok tx) = IsRefused tx
IsTooLong (Err e) = ⊥

-- the transaction, the first input that isn't final, or that the text is too long
abbrev pub FinishedBy : Result Tx PsbtFault → Result Tx PsbtFault → Type 0
FinishedBy (Ok tx) done = done ≡ Ok tx
FinishedBy (Err e) done = FailsWhole e done ⊎ ((e ≡ whole.At places.Whole faults.TooLong) × IsTooLong done)
