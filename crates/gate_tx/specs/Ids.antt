-- The ids of a transaction, and how an id is printed and read.
use Rattle.std.specs.Prelude.{ℕ, List, reverse, Option, Some, None, Result, Ok, Err}
use Rattle.sha2.specs.Sha256.{sha256}
use Rattle.hex.specs.declared.error.FromHexError.{FromHexError}
use Rattle.hex.specs.Hex.{encode_lower, decode_sized}
use Rattle.gate_tx.specs.Tx.{Tx}
use Rattle.gate_tx.specs.Text.{stripped, text}

-- the hash of the hash of the form without witnesses
unfoldable pub txid_of : Tx → List ℕ
txid_of t = sha256 (sha256 (stripped t))

-- the hash of the hash of the text
unfoldable pub wtxid_of : Tx → List ℕ
wtxid_of t = sha256 (sha256 (text t))

-- an id is printed in lower-case hex, its last byte first
abbrev pub id_text : List ℕ → List ℕ
id_text id = encode_lower (reverse id)

abbrev pub reversed : Result (List ℕ) FromHexError → Option (List ℕ)
reversed (Ok bytes) = Some (reverse bytes)
reversed (Err e) = None

-- the id that 64 hex digits of either case print
unfoldable pub read_id : List ℕ → Option (List ℕ)
read_id digits = reversed (decode_sized digits 32)
