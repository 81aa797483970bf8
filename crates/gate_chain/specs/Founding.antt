-- What holds of the blocks of a chain, one on top of another.
use Rattle.std.specs.Prelude.{◌≡◌, true, List, [], ◌∷◌, ◌++◌, None}
use Rattle.gate_tx.specs.declared.OutPoint.{OutPoint}
use Rattle.gate_chain.specs.Blocks.{Block}
use Rattle.gate_chain.specs.Coins.{is_known_txid, is_spent_in}
use Rattle.gate_chain.specs.Connecting.{transactions_denial}
use Rattle.gate_chain.specs.History.{History}

-- a history with these blocks in place of its own
abbrev pub with_only : History → List Block → History
with_only h blocks = record { first = h.first; coins = h.coins; times = h.times; blocks = blocks }

-- each block had no fault on top of those before it
abbrev pub AreConnected : History → Type 0
AreConnected h = (before after : List Block) (b : Block) → h.blocks ≡ before ++ b ∷ after → transactions_denial (with_only h before) b.header [] b.transactions ≡ None

-- each outpoint that a block spends is of a transaction that was known once the chain had that block
abbrev pub AreFounded : History → Type 0
AreFounded h = (before after : List Block) (b : Block) → h.blocks ≡ before ++ b ∷ after → (p : OutPoint) → is_spent_in p b ≡ true
    → is_known_txid (with_only h (before ++ b ∷ [])) p.txid ≡ true
