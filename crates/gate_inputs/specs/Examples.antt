-- Inputs and scripts on which the definitions are tried: the prover computes what they say.
use Rattle.std.specs.Prelude.{ℕ, List, [], ◌∷◌, ◌++◌, replicate}
use Rattle.gate_tx.specs.declared.transaction.TxIn.{TxIn}

-- an input with this script and witness
abbrev pub signed : List ℕ → List (List ℕ) → TxIn
signed script witness = record {
  prevout = record { txid = replicate 32 0x11; index = 0 };
  script = script;
  sequence = 0xffff_fffd;
  witness = witness;
}

-- scripts of coins
abbrev pub to_script_hash : List ℕ
to_script_hash = 0xa9 ∷ 20 ∷ (replicate 20 0x22 ++ (0x87 ∷ []))

abbrev pub to_taproot : List ℕ
to_taproot = 0x51 ∷ 32 ∷ replicate 32 0x22

-- a script that pushes a program of version 0 with a script hash
abbrev pub nested : List ℕ
nested = 34 ∷ 0x00 ∷ 32 ∷ replicate 32 0x22

-- a witness of an item of `size` bytes, a leaf script of OP_1, and the last item
abbrev pub leaf_spend : ℕ → List ℕ → List (List ℕ)
leaf_spend size control = replicate size 1 ∷ (0x51 ∷ []) ∷ control ∷ []
