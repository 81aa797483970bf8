-- The one text of each block: its header, and its transactions behind their count.
use Rattle.std.specs.Prelude.{◌≡◌, ◌≤◌, ℕ, List, ◌++◌, length}
use Rattle.std.specs.List.{AllByRecursion}
use Rattle.gate_bytes.specs.Compact.{IsCount}
use Rattle.gate_tx.specs.Text.{text, vector, longest, IsTx}
use Rattle.gate_chain.specs.Blocks.{Block}

abbrev pub block_text : Block → List ℕ
block_text b = b.header ++ vector text b.transactions

-- these bytes are the text of this block, and not too many
pub record SpellsBlock (b : Block) (bytes : List ℕ) : Type 0 where
  pub header : length b.header ≡ 80
  pub count : IsCount (length b.transactions)
  pub transactions : AllByRecursion IsTx b.transactions
  pub size : length bytes ≤ longest
  pub parts : bytes ≡ block_text b
