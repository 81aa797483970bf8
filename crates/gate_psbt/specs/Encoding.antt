-- A PSBT as it is passed on: its bytes, or base64 with white space anywhere.
use Rattle.std.specs.Prelude.{◌≡◌, ℕ, Bool, not, ◌==◌, ◌&&◌, List, Result, Ok, Err, if◌then◌else◌}
use Rattle.std.specs.Global.{Vec}
use Rattle.std.specs.List.{filter, starts_with}
use Rattle.base64.specs.Engines.{standard}
use Rattle.base64.specs.GeneralPurpose.{decode_of}
use Rattle.gate_psbt.specs.declared.fault.PartFault.TheVariants as faults
use Rattle.gate_psbt.specs.declared.fault.Place.TheVariants as places
use Rattle.gate_psbt.specs.declared.fault.PsbtFault.{PsbtFault}
use Rattle.gate_psbt.specs.declared.fault.PsbtFault.TheVariants as whole
use Rattle.gate_psbt.specs.Faults.{FailsWhole}
use Rattle.gate_psbt.specs.Psbts.{magic}

-- no white space
abbrev pub is_ink : ℕ → Bool
is_ink byte = not (byte == 32) && (not (byte == 9) && (not (byte == 10) && not (byte == 13)))

abbrev pub or_fault : {X E : Type 0} → Result X E → Result X PsbtFault
or_fault (Ok x) = Ok x
or_fault (Err e) = Err (whole.At places.Whole faults.Encoding)

unfoldable pub decoded_of : List ℕ → Result (List ℕ) PsbtFault
decoded_of text = if starts_with ◌==◌ text magic then Ok text else or_fault (decode_of standard (filter is_ink text))

abbrev pub DecodesInto : Result (Vec ℕ) PsbtFault → Result (List ℕ) PsbtFault → Type 0
DecodesInto (Ok v) read = read ≡ Ok v.items
DecodesInto (Err e) read = FailsWhole e read
