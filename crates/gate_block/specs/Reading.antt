-- Reading a block from the left.
use Rattle.std.specs.Prelude.{◌≡◌, ℕ, List, [], ◌∷◌, length, take, drop, Option, Some, None, Result, Ok, Err, nat_lt, if◌then◌else◌}
use Rattle.std.specs.Global.{Vec}
use Rattle.gate_tx.specs.Tx.{Tx}
use Rattle.gate_tx.specs.Text.{longest}
use Rattle.gate_tx.specs.Reading.{vector_at, tx_at}
use Rattle.gate_tx.specs.declared.TxFault.{TxFault}
use Rattle.gate_tx.specs.declared.TxFault.TheVariants as tx
use Rattle.gate_chain.specs.Blocks.{Block}
use Rattle.gate_rules.specs.declared.ChainDenial.TheVariants.{BlockDecode}
use Rattle.gate_chain.specs.declared.ChainFault.{ChainFault}
use Rattle.gate_chain.specs.declared.ChainFault.TheVariants.{Memory, Denied}

-- the fault of a block in which a transaction has this fault
abbrev pub block_fault : TxFault → ChainFault
block_fault tx.Memory = Memory
block_fault e = Denied BlockDecode

-- what was read, if no bytes are left
abbrev pub ended : {X : Type 0} → Result (X × List ℕ) TxFault → Option X
ended (Ok (x, [])) = Some x
ended (Ok (x, b ∷ rest)) = None
ended (Err e) = None

-- the transactions that all of the bytes spell: a count and that many texts
abbrev pub all_transactions : List ℕ → Option (List Tx)
all_transactions bytes = ended (vector_at tx_at bytes)

abbrev pub with_header : List ℕ → Option (List Tx) → Option Block
with_header header None = None
with_header header (Some txs) = Some (record { header = header; transactions = txs })

-- the block that all of the bytes spell
unfoldable pub decoded_block : List ℕ → Option Block
decoded_block bytes =
    if nat_lt longest (length bytes) then None
    else if nat_lt (length bytes) 80 then None
    else with_header (take 80 bytes) (all_transactions (drop 80 bytes))

-- what is answered if these items, or none, can be read
abbrev pub GivesAll : {X : Type 0} → Result (Vec X) ChainFault → Option (List X) → Type 0
GivesAll (Ok v) read = read ≡ Some v.items
GivesAll (Err Memory) read = Unit {0}
GivesAll (Err (Denied d)) read = (d ≡ BlockDecode) × (read ≡ None)

abbrev pub GivesBlock : Result Block ChainFault → Option Block → Type 0
GivesBlock (Ok b) read = read ≡ Some b
GivesBlock (Err Memory) read = Unit {0}
GivesBlock (Err (Denied d)) read = (d ≡ BlockDecode) × (read ≡ None)
