-- The rules that a transaction meets or fails by itself, in the written order.
use Rattle.std.specs.Prelude.{ℕ, ◌+◌, ◌*◌, ◌-◌, nat_lt, ◌==◌, ◌&&◌, ◌||◌, not, Bool, true, false, List, [], ◌∷◌, ◌++◌, length, ℤ, pos, Option}
use Rattle.std.specs.Int.{is_negative}
use Rattle.std.specs.Ordering.{int_eq}
use Rattle.std.specs.List.{list_any, count_by, flat_map}
use Rattle.std.specs.Option.{option_map}
use Rattle.gate_bytes.specs.Order.{Rule}
use Rattle.gate_tx.specs.declared.transaction.TxIn.{TxIn}
use Rattle.gate_tx.specs.declared.transaction.TxOut.{TxOut}
use Rattle.gate_tx.specs.Tx.{Tx}
use Rattle.gate_tx.specs.Coins.{is_null, spends}
use Rattle.gate_tx.specs.Money.{max_money, amount_or_zero}
use Rattle.gate_tx.specs.Sizes.{stripped_size_of, weight_of}
use Rattle.gate_script.specs.Pushes.{is_push_only}
use Rattle.gate_rules.specs.declared.Denial.{Denial}
use Rattle.gate_rules.specs.declared.Denial.TheVariants.{VinEmpty, VoutEmpty, Oversize, VoutNegative, VoutTooLarge, TotalTooLarge, InputsDuplicate, CoinbaseLength, PrevoutNull, Coinbase, Version, TxSize, ScriptSigSize, ScriptSigNotPushOnly, ScriptPubKey, Dust, MultiOpReturn, TxSizeSmall, DataCarrier}
use Rattle.gate_standard.specs.Outputs.{is_standard_output, is_dust, carries_data}
use Rattle.gate_standard.specs.declared.standards.Standards.{Standards}
use Rattle.gate_standard.specs.Standards.{is_past}

-- the rules on a value that comes after values of this sum
abbrev pub rules_of_value : ℕ → ℤ → List (Rule Denial)
rules_of_value sum value =
    (VoutNegative, is_negative value)
    ∷ (VoutTooLarge, nat_lt max_money (amount_or_zero value))
    ∷ (TotalTooLarge, nat_lt max_money (sum + amount_or_zero value))
    ∷ []

-- the rules on the value of each output in turn, after values of this sum
abbrev pub output_value_rules : ℕ → List TxOut → List (Rule Denial)
output_value_rules sum [] = []
output_value_rules sum (output ∷ outputs) = rules_of_value sum output.value ++ output_value_rules (sum + amount_or_zero output.value) outputs

-- two inputs spend the same outpoint
abbrev pub spends_twice : List TxIn → Bool
spends_twice [] = false
spends_twice (input ∷ inputs) = spends inputs input.prevout || spends_twice inputs

-- an input spends the null outpoint
abbrev pub spends_null : List TxIn → Bool
spends_null inputs = list_any (λ input. is_null input.prevout) inputs

-- the only input spends the null outpoint
abbrev pub is_coinbase : List TxIn → Bool
is_coinbase [] = false
is_coinbase (input ∷ []) = is_null input.prevout
is_coinbase (input ∷ other ∷ inputs) = false

-- an input's script is shorter or longer than a coinbase's may be
abbrev pub is_outside_coinbase : TxIn → Bool
is_outside_coinbase input = nat_lt (length input.script) 2 || nat_lt 100 (length input.script)

abbrev pub coinbase_rules : List TxIn → List (Rule Denial)
coinbase_rules inputs =
    (CoinbaseLength, is_coinbase inputs && list_any is_outside_coinbase inputs)
    ∷ (PrevoutNull, not (is_coinbase inputs) && spends_null inputs)
    ∷ (Coinbase, is_coinbase inputs)
    ∷ []

-- the rules of every transaction, also of one in a block, and that a coinbase is not relayed (A2 to A11): 4,000,000 is
-- MAX_BLOCK_WEIGHT
unfoldable pub transaction_rules : Tx → List (Rule Denial)
transaction_rules tx =
    (VinEmpty, length tx.inputs == 0)
    ∷ (VoutEmpty, length tx.outputs == 0)
    ∷ (Oversize, nat_lt 4_000_000 (stripped_size_of tx * 4))
    ∷ (output_value_rules 0 tx.outputs ++ ((InputsDuplicate, spends_twice tx.inputs) ∷ coinbase_rules tx.inputs))

-- the rules on an input: 1,650 is MAX_STANDARD_SCRIPTSIG_SIZE
abbrev pub rules_of_input : TxIn → List (Rule Denial)
rules_of_input input =
    (ScriptSigSize, nat_lt 1650 (length input.script))
    ∷ (ScriptSigNotPushOnly, not (is_push_only input.script))
    ∷ []

-- the rules on an output, if the outputs before it left this many bytes for scripts that carry data; dust that a child may sweep is
-- counted behind all outputs
abbrev pub rules_of_output : Standards → Option ℕ → TxOut → List (Rule Denial)
rules_of_output standards left output =
    (ScriptPubKey, not (is_standard_output standards output))
    ∷ (DataCarrier, carries_data output && is_past left (length output.script))
    ∷ (Dust, not standards.ephemeral_dust && is_dust standards.dust_rate output)
    ∷ []

-- what is left behind a script of this size, which carries data or doesn't
abbrev pub left_behind : Option ℕ → Bool → ℕ → Option ℕ
left_behind left false size = left
left_behind left true size = option_map (λ bytes. bytes - size) left

-- the rules on each output in turn, the first of which has this many bytes left
abbrev pub rules_of_outputs : Standards → Option ℕ → List TxOut → List (Rule Denial)
rules_of_outputs standards left [] = []
rules_of_outputs standards left (output ∷ outputs) = rules_of_output standards left output ++ rules_of_outputs standards (left_behind left (carries_data output) (length output.script)) outputs

-- a transaction of version 3, which keeps to a small family until it is confirmed (BIP 431)
abbrev pub is_truc : Tx → Bool
is_truc tx = int_eq tx.version (pos 3)

-- versions 1 and 2 are standard, and 3 where an operator says so
abbrev pub is_version : Bool → Tx → Bool
is_version truc tx = int_eq tx.version (pos 1) || (int_eq tx.version (pos 2) || (truc && is_truc tx))

-- A12
unfoldable pub version_rules : Bool → Tx → List (Rule Denial)
version_rules truc tx = (Version, not (is_version truc tx)) ∷ []

-- how many outputs are dust
abbrev pub dust_count : Standards → List TxOut → ℕ
dust_count standards outputs = count_by (is_dust standards.dust_rate) outputs

-- an output is dust that a child may sweep
abbrev pub has_ephemeral_dust : Standards → Tx → Bool
has_ephemeral_dust standards tx = standards.ephemeral_dust && nat_lt 0 (dust_count standards tx.outputs)

-- the rules on the outputs together, and on the size: one of them may be dust where a child may sweep it
abbrev pub rules_of_whole : Standards → Tx → List (Rule Denial)
rules_of_whole standards tx =
    (Dust, standards.ephemeral_dust && nat_lt 1 (dust_count standards tx.outputs))
    ∷ (MultiOpReturn, nat_lt standards.data_outputs (count_by carries_data tx.outputs))
    ∷ (TxSizeSmall, nat_lt (stripped_size_of tx) standards.least_size)
    ∷ []

-- the rules of policy on a transaction that no operator sets (A13 to A15): 400,000 is MAX_STANDARD_TX_WEIGHT
unfoldable pub form_rules : Tx → List (Rule Denial)
form_rules tx = (TxSize, nat_lt 400_000 (weight_of tx)) ∷ flat_map rules_of_input tx.inputs

-- the rules of policy on a transaction by what an operator takes for standard (A16 to A19, and A51)
unfoldable pub output_rules : Standards → Tx → List (Rule Denial)
output_rules standards tx = rules_of_outputs standards standards.data_total tx.outputs ++ rules_of_whole standards tx

-- the rules of policy on a transaction, which one in a block may break (A12 to A19, and A51)
unfoldable pub standard_rules : Standards → Tx → List (Rule Denial)
standard_rules standards tx = version_rules standards.truc tx ++ (form_rules tx ++ output_rules standards tx)
