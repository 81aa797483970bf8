-- A whole PSBT (BIP 174, version 0): the magic bytes, the global map, a map for each input and each output.
use Rattle.std.specs.Prelude.{◌≡◌, ℕ, zero, suc, Bool, not, ◌==◌, List, [], ◌∷◌, ◌++◌, length, take, drop, slice_get, Option, Some, None, Result, Ok, Err, if◌then◌else◌}
use Rattle.std.specs.List.{list_any}
use Rattle.std.specs.Str.{bytes_eq}
use Rattle.gate_bytes.specs.Reading.{number_at}
use Rattle.gate_tx.specs.declared.transaction.OutPoint.{OutPoint}
use Rattle.gate_tx.specs.declared.transaction.TxIn.{TxIn}
use Rattle.gate_tx.specs.Tx.{Tx}
use Rattle.gate_psbt.specs.declared.fault.PartFault.{PartFault}
use Rattle.gate_psbt.specs.declared.fault.PartFault.TheVariants as faults
use Rattle.gate_psbt.specs.declared.fault.Place.TheVariants as places
use Rattle.gate_psbt.specs.declared.fault.PsbtFault.{PsbtFault}
use Rattle.gate_psbt.specs.declared.fault.PsbtFault.TheVariants as whole
use Rattle.gate_psbt.specs.declared.input.PsbtInput.{PsbtInput}
use Rattle.gate_psbt.specs.declared.map.Owner.TheVariants as owners
use Rattle.gate_psbt.specs.declared.psbt.Psbt.{Psbt}
use Rattle.gate_psbt.specs.Faults.{◌>>=◌, Fails, FailsWhole, of_bytes, placed}
use Rattle.gate_psbt.specs.Fields.{transaction_of}
use Rattle.gate_psbt.specs.Inputs.{input_of}
use Rattle.gate_psbt.specs.Maps.{KeyValue, map_at, value_of}

-- `psbt` and the byte 0xff
abbrev pub magic : List ℕ
magic = 0x70 ∷ 0x73 ∷ 0x62 ∷ 0x74 ∷ 0xff ∷ []

unfoldable pub behind_magic : List ℕ → Result (List ℕ) PartFault
behind_magic bytes = if bytes_eq (take 5 bytes) magic then Ok (drop 5 bytes) else Err faults.Magic

abbrev pub version_in : Option (List ℕ) → Result (Unit {0}) PartFault
version_in None = Ok tt
version_in (Some bytes) = do
  version ← of_bytes (number_at 4 bytes)
  if length version.1 == 0 then (if version.0 == 0 then Ok tt else Err faults.Version) else Err faults.Trailing

-- the version is 0, as it is if it is not said: PSBT_GLOBAL_VERSION
unfoldable pub checked_version : List KeyValue → Result (Unit {0}) PartFault
checked_version pairs = version_in (value_of 0xfb pairs)

-- an input has a script
abbrev pub has_script : List TxIn → Bool
has_script inputs = list_any (λ (i : TxIn). not (length i.script == 0)) inputs

-- a transaction by its bytes and by the byte behind its version, which is not 0
abbrev pub plain_by : List ℕ → Option ℕ → Result Tx PartFault
plain_by bytes None = transaction_of bytes
plain_by bytes (Some count) = if count == 0 then Err faults.Form else transaction_of bytes

-- the transaction in the form without witnesses that all of the bytes are
unfoldable pub plain_of : List ℕ → Result Tx PartFault
plain_of bytes = plain_by bytes (slice_get bytes 4)

abbrev pub unsigned_by : Option (List ℕ) → Result Tx PartFault
unsigned_by None = Err faults.NoTransaction
unsigned_by (Some bytes) = do
  tx ← plain_of bytes
  if has_script tx.inputs then Err faults.Signed else Ok tx

-- the transaction without scripts and witnesses: PSBT_GLOBAL_UNSIGNED_TX
unfoldable pub unsigned_of : List KeyValue → Result Tx PartFault
unsigned_of pairs = unsigned_by (value_of 0 pairs)

-- the global map: the version is 0, and the unsigned transaction
unfoldable pub global_at : List ℕ → Result (Tx × List ℕ) PartFault
global_at bytes = do
  pairs ← map_at owners.Whole bytes
  version ← checked_version pairs.0
  tx ← unsigned_of pairs.0
  Ok (tx, pairs.1)

-- the map of the input that spends this outpoint
unfoldable pub input_at : OutPoint → List ℕ → Result (PsbtInput × List ℕ) PartFault
input_at point bytes = do
  pairs ← map_at owners.Input bytes
  input ← input_of point pairs.0
  Ok (input, pairs.1)

-- the maps of these inputs, the first at this place, behind what was read before
unfoldable pub inputs_at : ℕ → List PsbtInput → List TxIn → List ℕ → Result (List PsbtInput × List ℕ) PsbtFault
inputs_at place before [] bytes = Ok (before, bytes)
inputs_at place before (input ∷ more) bytes = do
  taken ← placed (places.Input place) (input_at input.prevout bytes)
  inputs_at (suc place) (before ++ taken.0 ∷ []) more taken.1

-- the bytes behind the maps of this many outputs, the first at this place
unfoldable pub outputs_at : ℕ → ℕ → List ℕ → Result (List ℕ) PsbtFault
outputs_at place zero bytes = Ok bytes
outputs_at place (suc n) bytes = do
  pairs ← placed (places.Output place) (map_at owners.Output bytes)
  outputs_at (suc place) n pairs.1

-- the PSBT that all of the bytes are
unfoldable pub psbt_of : List ℕ → Result Psbt PsbtFault
psbt_of bytes = do
  maps ← placed places.Whole (behind_magic bytes)
  unsigned ← placed places.Global (global_at maps)
  inputs ← inputs_at 0 [] unsigned.0.inputs unsigned.1
  rest ← outputs_at 0 (length unsigned.0.outputs) inputs.1
  if length rest == 0 then Ok (record { unsigned = unsigned.0; inputs = inputs.0 }) else Err (whole.At places.Whole faults.Trailing)

-- a call that takes bytes and hands out nothing
abbrev pub Skips : Result (Unit {0}) PartFault → List ℕ → Result (List ℕ) PartFault → Type 0
Skips (Ok u) rest read = read ≡ Ok rest
Skips (Err e) rest read = Fails e read

abbrev pub SkipsWhole : Result (Unit {0}) PsbtFault → List ℕ → Result (List ℕ) PsbtFault → Type 0
SkipsWhole (Ok u) rest read = read ≡ Ok rest
SkipsWhole (Err e) rest read = FailsWhole e read
