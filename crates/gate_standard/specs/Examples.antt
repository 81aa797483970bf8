-- Transactions on which the definitions are tried: what each of them decides is computed by the prover.
use Rattle.std.specs.Prelude.{ℕ, List, [], ◌∷◌, ◌++◌, pos, replicate}
use Rattle.gate_tx.specs.declared.transaction.TxIn.{TxIn}
use Rattle.gate_tx.specs.declared.transaction.TxOut.{TxOut}
use Rattle.gate_tx.specs.Tx.{Tx}

-- an input that spends output 0 of the id that is 32 times the byte, with an empty script
abbrev pub spending : ℕ → TxIn
spending id = record {
  prevout = record { txid = replicate 32 id; index = 0 };
  script = [];
  sequence = 0xffff_fffd;
  witness = [];
}

-- the input of a coinbase with this script
abbrev pub from_nothing : List ℕ → TxIn
from_nothing script = record {
  prevout = record { txid = replicate 32 0; index = 0xffff_ffff };
  script = script;
  sequence = 0xffff_ffff;
  witness = [];
}

-- scripts of outputs
abbrev pub to_key_hash : List ℕ
to_key_hash = 0x76 ∷ 0xa9 ∷ 20 ∷ (replicate 20 0x22 ++ (0x88 ∷ 0xac ∷ []))

abbrev pub to_script_hash : List ℕ
to_script_hash = 0xa9 ∷ 20 ∷ (replicate 20 0x22 ++ (0x87 ∷ []))

abbrev pub to_witness_key : List ℕ
to_witness_key = 0x00 ∷ 20 ∷ replicate 20 0x22

abbrev pub to_witness_script : List ℕ
to_witness_script = 0x00 ∷ 32 ∷ replicate 32 0x22

abbrev pub pays : ℕ → List ℕ → TxOut
pays value script = record { value = pos value; script = script }

abbrev pub makes : List TxIn → List TxOut → Tx
makes inputs outputs = record { version = pos 2; inputs = inputs; outputs = outputs; locktime = 0 }

-- a transaction that spends one output twice
abbrev pub spends_twice : Tx
spends_twice = makes (spending 17 ∷ spending 17 ∷ []) (pays 1000 to_witness_key ∷ [])
