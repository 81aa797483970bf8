-- Values of fields: an output, a transaction, a witness. Each is all of the bytes.
use Rattle.std.specs.Prelude.{◌≡◌, ℕ, zero, suc, List, [], ◌∷◌, ◌++◌, length, Result, Ok, Err, ◌==◌, if◌then◌else◌}
use Rattle.std.specs.Borrow.{Bor}
use Rattle.std.specs.Int.{w64}
use Rattle.gate_bytes.specs.declared.fault.ByteFault.{ByteFault}
use Rattle.gate_bytes.specs.Reading.{bytes_at, compact_at, signed_at}
use Rattle.gate_tx.specs.declared.transaction.TxOut.{TxOut}
use Rattle.gate_tx.specs.Reading.{all_of}
use Rattle.gate_tx.specs.Tx.{Tx}
use Rattle.gate_psbt.specs.declared.fault.PartFault.{PartFault}
use Rattle.gate_psbt.specs.declared.fault.PartFault.TheVariants as faults
use Rattle.gate_psbt.specs.Faults.{◌>>=◌, byte_part, of_bytes, of_tx}

-- a count and that many bytes
unfoldable pub counted_at : List ℕ → Result (List ℕ × List ℕ) PartFault
counted_at bytes = do
  n ← of_bytes (compact_at bytes)
  of_bytes (bytes_at n.0 n.1)

-- what a call took that hands out a count's bytes, and the bytes that it left
abbrev pub CountedBy : Result (Bor (List ℕ)) ByteFault → List ℕ → Result (List ℕ × List ℕ) PartFault → Type 0
CountedBy (Ok x) rest read = read ≡ Ok (x.now, rest)
CountedBy (Err e) rest read = read ≡ Err (byte_part e)

unfoldable pub output_of : List ℕ → Result TxOut PartFault
output_of bytes = do
  value ← of_bytes (signed_at w64 8 bytes)
  script ← counted_at value.1
  if length script.1 == 0 then Ok (record { value = value.0; script = script.0 }) else Err faults.Trailing

unfoldable pub transaction_of : List ℕ → Result Tx PartFault
transaction_of bytes = of_tx (all_of bytes)

-- this many items of bytes, behind those that were read before
unfoldable pub items_at : ℕ → List (List ℕ) → List ℕ → Result (List (List ℕ) × List ℕ) PartFault
items_at zero before bytes = Ok (before, bytes)
items_at (suc n) before bytes = do
  item ← counted_at bytes
  items_at n (before ++ item.0 ∷ []) item.1

unfoldable pub witness_of : List ℕ → Result (List (List ℕ)) PartFault
witness_of bytes = do
  count ← of_bytes (compact_at bytes)
  items ← items_at count.0 [] count.1
  if length items.1 == 0 then Ok items.0 else Err faults.Trailing
