-- The lowest connected blocks become blocks of the opening, and coins that nobody needs are forgotten.
use Rattle.std.specs.Prelude.{ℕ, nat_lt, not, Bool, ◌&&◌, ◌||◌, List, ◌++◌, filter, map, length, take, drop, Option, Some, None, if◌then◌else◌}
use Rattle.std.specs.List.{list_any}
use Rattle.gate_tx.specs.declared.OutPoint.{OutPoint}
use Rattle.gate_rules.specs.declared.ChainDenial.{ChainDenial}
use Rattle.gate_rules.specs.declared.ChainDenial.TheVariants.{NoUndo}
use Rattle.gate_chain.specs.declared.opening.OpeningCoin.{OpeningCoin}
use Rattle.gate_chain.specs.Blocks.{Block}
use Rattle.gate_chain.specs.Coins.{has_transaction, is_spent_in}
use Rattle.gate_chain.specs.Headers.{header_time}
use Rattle.gate_chain.specs.History.{History, first_connected}
use Rattle.gate_chain.specs.Keeping.{opening_coins}
use Rattle.gate_chain.specs.Marking.{made_by_blocks}

-- some of these blocks spends an outpoint
abbrev pub is_spent_in_any : OutPoint → List Block → Bool
is_spent_in_any p blocks = list_any (is_spent_in p) blocks

-- the coins of the opening, and behind them those that the lowest `n` blocks made, spent or not
abbrev pub opening_with : History → ℕ → List OpeningCoin
opening_with h n = h.coins ++ opening_coins (made_by_blocks (first_connected h) (take n h.blocks))

-- a coin stays if none of the lowest `n` blocks spends it, and a block above them does or it is wanted
abbrev pub stays : History → ℕ → (OutPoint → Bool) → OutPoint → Bool
stays h n wanted p = not (is_spent_in_any p (take n h.blocks)) && (is_spent_in_any p (drop n h.blocks) || wanted p)

-- a history whose lowest `n` blocks became blocks of its opening, which keeps the coins that stay
abbrev pub forgotten : History → ℕ → (OutPoint → Bool) → History
forgotten h n wanted = record {
  first = h.first;
  coins = filter (λ c. stays h n wanted c.outpoint) (opening_with h n);
  times = h.times ++ map (λ b. header_time b.header) (take n h.blocks);
  blocks = drop n h.blocks;
}

-- a coin that is forgotten although no block spends it: nobody wants it
abbrev pub is_dropped : History → (OutPoint → Bool) → OutPoint → Bool
is_dropped h wanted p = not (is_spent_in_any p h.blocks) && not (wanted p)

-- the unspent coins that are known no more
abbrev pub dropped_coins : History → ℕ → (OutPoint → Bool) → List OpeningCoin
dropped_coins h n wanted = filter (λ c. is_dropped h wanted c.outpoint) (opening_with h n)

-- why blocks are not forgotten: there are fewer
abbrev pub forget_denial : History → ℕ → Option ChainDenial
forget_denial h n = if nat_lt (length h.blocks) n then Some NoUndo else None

-- an outpoint counts if it is wanted, or if a block above the lowest `n` spends it or has the transaction that made it
abbrev pub counts : History → ℕ → (OutPoint → Bool) → OutPoint → Bool
counts h n wanted p = wanted p || (is_spent_in_any p (drop n h.blocks) || list_any (has_transaction p.txid) (drop n h.blocks))
