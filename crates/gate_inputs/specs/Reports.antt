-- What policy says of an input that spends a coin of a script (Bitcoin Core 22.0: `AreInputsStandard`, `IsWitnessStandard` and
-- `GetTransactionSigOpCost`). Core's `AreInputsStandard` also fails on an input script over 10,000 bytes (MAX_SCRIPT_SIZE),
-- which A14 keeps away from these.
use Rattle.std.specs.Prelude.{ℕ, ◌+◌, ◌*◌, ◌-◌, Bool, true, false, not, ◌&&◌, ◌||◌, ◌==◌, nat_le, bit_and, if◌then◌else◌, List, [], ◌∷◌, length, take, slice_get, Option, Some, None, option_and_then}
use Rattle.std.specs.List.{list_all}
use Rattle.std.specs.Option.{option_map_or}
use Rattle.gate_tx.specs.declared.transaction.TxIn.{TxIn}
use Rattle.gate_script.specs.declared.templates.Template.{Template}
use Rattle.gate_script.specs.declared.templates.Template.TheVariants.{ScriptHash, Taproot, WitnessUnknown, Nonstandard}
use Rattle.gate_script.specs.Pushes.{is_push_only, push_stack_of}
use Rattle.gate_script.specs.Sigops.{sigops_of}
use Rattle.gate_script.specs.Templates.{template_of}
use Rattle.gate_script.specs.Witness.{witness_program_of}

-- the last item
abbrev pub last_of : {A : Type 0} → List A → Option A
last_of xs = slice_get xs (length xs - 1)

-- what `some` makes of the last item and those before it, or `none` if there is no item
unfoldable pub from_last : {A B : Type 0} → B → (A → List A → B) → List A → B
from_last none some xs = option_map_or (λ x. some x (take (length xs - 1) xs)) (last_of xs) none

abbrev pub is_pay_to_script_hash : Template → Bool
is_pay_to_script_hash ScriptHash = true
is_pay_to_script_hash _ = false

abbrev pub is_taproot : Template → Bool
is_taproot Taproot = true
is_taproot _ = false

-- the redeem script under a script hash: the last item that the input's script pushes (BIP 16)
unfoldable pub redeem_of : List ℕ → Option (List ℕ)
redeem_of script = option_and_then last_of (push_stack_of script)

-- ---- standard

-- a redeem script of at most 15 signature operations (MAX_P2SH_SIGOPS)
abbrev pub has_few_sigops : List ℕ → Bool
has_few_sigops redeem = nat_le (sigops_of true redeem) 15

abbrev pub is_standard_by : Template → Option (List ℕ) → Bool
is_standard_by Nonstandard redeem = false
is_standard_by WitnessUnknown redeem = false
is_standard_by ScriptHash redeem = option_map_or has_few_sigops redeem false
is_standard_by _ redeem = true

unfoldable pub is_standard_spend : TxIn → List ℕ → Bool
is_standard_spend input script = is_standard_by (template_of script) (redeem_of input.script)

-- ---- the witness

-- the script that locks a coin: the coin's own, or under a script hash the redeem script (BIP 16)
abbrev pub locking_script : Template → Option (List ℕ) → List ℕ → Option (List ℕ)
locking_script form redeem script = if is_pay_to_script_hash form then redeem else Some script

-- the witness program that a spend meets: that which the locking script is (BIP 141)
abbrev pub program_by : Template → Option (List ℕ) → List ℕ → Option (ℕ × List ℕ)
program_by form redeem script = option_and_then witness_program_of (locking_script form redeem script)

-- 80 is MAX_STANDARD_P2WSH_STACK_ITEM_SIZE, and MAX_STANDARD_TAPSCRIPT_STACK_ITEM_SIZE
abbrev pub are_at_most_80_bytes : List (List ℕ) → Bool
are_at_most_80_bytes items = list_all (λ item. nat_le (length item) 80) items

-- a witness script of at most 3,600 bytes (MAX_STANDARD_P2WSH_SCRIPT_SIZE) behind at most 100 items
-- (MAX_STANDARD_P2WSH_STACK_ITEMS) of at most 80 bytes
abbrev pub is_standard_p2wsh_stack : List ℕ → List (List ℕ) → Bool
is_standard_p2wsh_stack script items = nat_le (length script) 3600 && nat_le (length items) 100 && are_at_most_80_bytes items

abbrev pub is_standard_p2wsh : List (List ℕ) → Bool
is_standard_p2wsh witness = from_last true is_standard_p2wsh_stack witness

-- the last item of a Taproot witness of two items or more is no annex; if it is a control block of leaf version 0xc0,
-- the items before the leaf script have at most 80 bytes (BIP 341, BIP 342)
abbrev pub is_standard_script_path : List ℕ → List (List ℕ) → Bool
is_standard_script_path [] items = false
is_standard_script_path (first ∷ _) items = not (first == 0x50) && (not (bit_and first 0xfe == 0xc0) || are_at_most_80_bytes items)

abbrev pub allows_taproot : List (List ℕ) → Bool
allows_taproot witness = from_last true (λ control before. from_last true (λ script items. is_standard_script_path control items) before) witness

abbrev pub allows_program : Template → List (List ℕ) → ℕ → ℕ → Bool
allows_program form witness version size =
    if version == 0 && size == 32 then is_standard_p2wsh witness
    else if is_taproot form then allows_taproot witness
    else true

abbrev pub allows_witness : Template → List (List ℕ) → Option (ℕ × List ℕ) → Bool
allows_witness form [] program = true
allows_witness form (item ∷ items) program = option_map_or (λ p. allows_program form (item ∷ items) p.0 (length p.1)) program false

unfoldable pub is_witness_standard : TxIn → List ℕ → Bool
is_witness_standard input script =
    let form = template_of script in
    allows_witness form input.witness (program_by form (redeem_of input.script) script)

abbrev pub is_bare : List (List ℕ) → Bool
is_bare [] = true
is_bare (item ∷ items) = false

-- ---- the cost of its signature operations

-- the redeem script whose operations count: that of an input whose script only pushes
abbrev pub counted_redeem : Template → List ℕ → Option (List ℕ)
counted_redeem form script = if is_pay_to_script_hash form && is_push_only script then redeem_of script else None

-- what the witness script counts, which is the last item
abbrev pub script_cost : List (List ℕ) → ℕ
script_cost witness = option_map_or (sigops_of true) (last_of witness) 0

-- 1 for a key hash, what the witness script counts for a script hash
abbrev pub program_cost : List (List ℕ) → ℕ → ℕ → ℕ
program_cost witness version size =
    if version == 0 && size == 20 then 1
    else if version == 0 && size == 32 then script_cost witness
    else 0

abbrev pub witness_cost : List (List ℕ) → Option (ℕ × List ℕ) → ℕ
witness_cost witness program = option_map_or (λ p. program_cost witness p.0 (length p.1)) program 0

-- 4 for each operation of the input's script and of the redeem script, and what the witness program costs
abbrev pub cost_by : TxIn → Option (List ℕ) → Option (ℕ × List ℕ) → ℕ
cost_by input redeem program =
    4 * sigops_of false input.script
    + 4 * option_map_or (sigops_of true) redeem 0
    + witness_cost input.witness program

unfoldable pub sigop_cost_of : TxIn → List ℕ → ℕ
sigop_cost_of input script =
    let form = template_of script in
    let redeem = counted_redeem form input.script in
    cost_by input redeem (program_by form redeem script)

-- ---- its legacy signature operations (BIP 54, `CheckSigopsBIP54` of Bitcoin Core 29.1)

-- those of the input's script and of the script that locks the coin, counted accurately
abbrev pub legacy_sigops_by : Template → List ℕ → Option (List ℕ) → List ℕ → ℕ
legacy_sigops_by form unlocking redeem script = sigops_of true unlocking + option_map_or (sigops_of true) (locking_script form redeem script) 0

unfoldable pub legacy_sigops_of : TxIn → List ℕ → ℕ
legacy_sigops_of input script = legacy_sigops_by (template_of script) input.script (redeem_of input.script) script
