-- The blocks of an event, and their transactions.
use Rattle.std.specs.Prelude.{List, Option}
use Rattle.std.specs.List.{flat_map}
use Rattle.std.specs.Option.{option_to_list}
use Rattle.gate_tx.specs.Tx.{Tx}
use Rattle.gate_chain.specs.Blocks.{Block}

-- the blocks that could be read
abbrev pub present : List (Option Block) → List Block
present blocks = flat_map option_to_list blocks

-- the transactions of blocks, in their order
abbrev pub transactions_of : List Block → List Tx
transactions_of blocks = flat_map (λ (b : Block). b.transactions) blocks
