-- What contracts see of a block.
use Rattle.std.specs.Prelude.{ℕ, List}
use Rattle.gate_tx.specs.Tx.{Tx}

-- the 80 bytes of its header, and its transactions, of which the first is the coinbase
pub record Block : Type 0 where
  pub header : List ℕ
  pub transactions : List Tx

abbrev pub block_of : List ℕ → List Tx → Block
block_of header transactions = record { header = header; transactions = transactions }
