-- Transactions and a chain on which the definitions are tried.
use Rattle.std.specs.Prelude.{ℕ, ℤ, pos, [], ◌∷◌, replicate}
use Rattle.gate_tx.specs.declared.TxIn.{TxIn}
use Rattle.gate_tx.specs.Tx.{Tx, tx_of}
use Rattle.gate_chain.specs.History.{History, opened}

abbrev pub spending : ℕ → TxIn
spending sequence = record {
  prevout = record { txid = replicate 32 7; index = 0 };
  script = [];
  sequence = sequence;
  witness = [];
}

-- a transaction of this version with one input of this sequence
abbrev pub locked : ℤ → ℕ → Tx
locked version sequence = tx_of version (spending sequence ∷ []) [] 0

-- a transaction of this locktime with two inputs, the second of which waives it
abbrev pub timed : ℕ → ℕ → Tx
timed locktime sequence = tx_of (pos 2) (spending sequence ∷ spending 0xffff_ffff ∷ []) [] locktime

-- heights 0 to 4, with 600 seconds between
abbrev pub five_blocks : History
five_blocks = opened [] (1000 ∷ 1600 ∷ 2200 ∷ 2800 ∷ 3400 ∷ [])
