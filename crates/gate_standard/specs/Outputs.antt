-- Which outputs an operator takes for standard, and what is dust (Bitcoin Core 22.0, `IsStandard` and `GetDustThreshold`).
use Rattle.std.specs.Prelude.{ℕ, ◌+◌, ℤ, pos, negsuc, nat_lt, nat_le, ◌&&◌, not, Bool, true, false, if◌then◌else◌, length}
use Rattle.std.specs.Option.{is_some}
use Rattle.gate_tx.specs.declared.transaction.TxOut.{TxOut}
use Rattle.gate_tx.specs.Text.{output}
use Rattle.gate_tx.specs.Coins.{is_unspendable}
use Rattle.gate_script.specs.declared.templates.Template.{Template}
use Rattle.gate_script.specs.declared.templates.Template.TheVariants.{NullData, Multisig, Nonstandard}
use Rattle.gate_script.specs.Templates.{template_of}
use Rattle.gate_script.specs.Witness.{witness_program_of}
use Rattle.gate_standard.specs.Amounts.{required_fee}
use Rattle.gate_standard.specs.declared.amounts.Feerate.{Feerate}
use Rattle.gate_standard.specs.declared.standards.Standards.{Standards}

-- whether a script of this template and this size is standard: at most 3 keys if any, and as much data as the operator allows
abbrev pub is_standard_template : Standards → Template → ℕ → Bool
is_standard_template standards Nonstandard size = false
is_standard_template standards (Multisig required keys) size = standards.bare_multisig && (nat_le 1 keys && nat_le keys 3)
is_standard_template standards NullData size = nat_le size standards.data_size
is_standard_template standards template size = true

unfoldable pub is_standard_output : Standards → TxOut → Bool
is_standard_output standards output = is_standard_template standards (template_of output.script) (length output.script)

abbrev pub is_null_data : Template → Bool
is_null_data NullData = true
is_null_data template = false

-- an output that carries data
unfoldable pub carries_data : TxOut → Bool
carries_data output = is_null_data (template_of output.script)

-- the size in bytes of an output and of the input that spends it, which is smaller if the script is a witness program
abbrev pub size_with_spend : TxOut → ℕ
size_with_spend o = length (output o) + (if is_some (witness_program_of o.script) then 67 else 148)

-- the least value with which an output is relayed: the fee of it and of the input that spends it, at this rate for 1,000 bytes
unfoldable pub dust_threshold_of : Feerate → TxOut → ℕ
dust_threshold_of rate o = if is_unspendable o.script then 0 else required_fee rate (size_with_spend o)

abbrev pub is_below : ℤ → ℕ → Bool
is_below (pos n) limit = nat_lt n limit
is_below (negsuc n) limit = true

unfoldable pub is_dust : Feerate → TxOut → Bool
is_dust rate o = not (carries_data o) && is_below o.value (dust_threshold_of rate o)
