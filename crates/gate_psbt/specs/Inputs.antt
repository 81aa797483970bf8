-- What the map of an input says: the coin that it spends, and what shows the right to in the end.
use Rattle.std.specs.Prelude.{ℕ, Bool, ◌&&◌, ◌||◌, List, slice_get, Option, Some, None, is_some, Result, Ok, Err, if◌then◌else◌}
use Rattle.std.specs.Ordering.{int_eq}
use Rattle.std.specs.Str.{bytes_eq}
use Rattle.gate_tx.specs.declared.transaction.OutPoint.{OutPoint}
use Rattle.gate_tx.specs.declared.transaction.TxOut.{TxOut}
use Rattle.gate_tx.specs.Ids.{txid_of}
use Rattle.gate_tx.specs.Tx.{Tx}
use Rattle.gate_psbt.specs.declared.fault.PartFault.{PartFault}
use Rattle.gate_psbt.specs.declared.fault.PartFault.TheVariants as faults
use Rattle.gate_psbt.specs.declared.input.PsbtInput.{PsbtInput}
use Rattle.gate_psbt.specs.Faults.{◌>>=◌}
use Rattle.gate_psbt.specs.Fields.{output_of, transaction_of, witness_of}
use Rattle.gate_psbt.specs.Maps.{KeyValue, value_of}

-- what a value says, if there is one
abbrev pub optional : {X : Type 0} → (List ℕ → Result X PartFault) → Option (List ℕ) → Result (Option X) PartFault
optional read None = Ok None
optional read (Some bytes) = read bytes >>= λ x. Ok (Some x)

-- the output that stands by itself: PSBT_IN_WITNESS_UTXO
unfoldable pub output_in : List KeyValue → Result (Option TxOut) PartFault
output_in pairs = optional output_of (value_of 1 pairs)

-- the transaction that made the coin: PSBT_IN_NON_WITNESS_UTXO
unfoldable pub transaction_in : List KeyValue → Result (Option Tx) PartFault
transaction_in pairs = optional transaction_of (value_of 0 pairs)

-- PSBT_IN_FINAL_SCRIPTSIG
abbrev pub script_of : List KeyValue → Result (Option (List ℕ)) PartFault
script_of pairs = Ok (value_of 7 pairs)

-- PSBT_IN_FINAL_SCRIPTWITNESS
unfoldable pub witness_in : List KeyValue → Result (Option (List (List ℕ))) PartFault
witness_in pairs = optional witness_of (value_of 8 pairs)

abbrev pub found : Option TxOut → Result TxOut PartFault
found None = Err faults.NoOutput
found (Some output) = Ok output

-- the output of a transaction that an outpoint names
unfoldable pub spent_of : OutPoint → Tx → Result TxOut PartFault
spent_of point tx = if bytes_eq (txid_of tx) point.txid then found (slice_get tx.outputs point.index) else Err faults.OtherTransaction

abbrev pub is_same_output : TxOut → TxOut → Bool
is_same_output a b = int_eq a.value b.value && bytes_eq a.script b.script

-- both stand: they are the same
abbrev pub agreed : Option TxOut → TxOut → Result (Option TxOut) PartFault
agreed None spent = Ok (Some spent)
agreed (Some output) spent = if is_same_output output spent then Ok (Some spent) else Err faults.OtherCoin

-- the coin that an outpoint names, by the output that stands by itself and by the transaction that made it
unfoldable pub coin_of : OutPoint → Option TxOut → Option Tx → Result (Option TxOut) PartFault
coin_of point output None = Ok output
coin_of point output (Some tx) = spent_of point tx >>= agreed output

unfoldable pub input_of : OutPoint → List KeyValue → Result PsbtInput PartFault
input_of point pairs = do
  output ← output_in pairs
  tx ← transaction_in pairs
  coin ← coin_of point output tx
  script ← script_of pairs
  witness ← witness_in pairs
  Ok (record { coin = coin; script = script; witness = witness })

-- an input has a final script or a final witness
abbrev pub is_final : PsbtInput → Bool
is_final input = is_some input.script || is_some input.witness
