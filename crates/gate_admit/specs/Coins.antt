-- The coin view: which coin an outpoint is for a transaction that is judged over a chain and a pool.
use Rattle.std.specs.Prelude.{ℕ, ◌+◌, Bool, false, List, Option, is_none, option_and_then, slice_get}
use Rattle.std.specs.Option.{option_or, option_to_list}
use Rattle.std.specs.List.{list_any, flat_map}
use Rattle.gate_tx.specs.declared.Coin.{Coin}
use Rattle.gate_tx.specs.declared.OutPoint.{OutPoint}
use Rattle.gate_tx.specs.declared.TxIn.{TxIn}
use Rattle.gate_chain.specs.History.{History}
use Rattle.gate_chain.specs.Coins.{coin_made, coin_of}
use Rattle.gate_chain.specs.Times.{tip_of}
use Rattle.gate_pool.specs.Pool.{Admitted, entry_by_txid}

-- the coin of an entry's output, if a script can spend it: not of a coinbase, and as though its transaction were in a block
-- of this height
abbrev pub pool_coin : ℕ → List Admitted → OutPoint → Option Coin
pool_coin height entries point =
    option_and_then (λ (e : Admitted). option_and_then (coin_made height false) (slice_get e.tx.outputs point.index)) (entry_by_txid entries point.txid)

-- the output of an entry, as though the entry were in the next block; else the unspent coin of the chain
abbrev pub view_coin : History → List Admitted → OutPoint → Option Coin
view_coin chain entries point = option_or (pool_coin (tip_of chain + 1) entries point) (coin_of chain point)

-- whether an input has no coin
abbrev pub misses_coin : History → List Admitted → List TxIn → Bool
misses_coin chain entries inputs = list_any (λ (i : TxIn). is_none (view_coin chain entries i.prevout)) inputs

-- the coins of the inputs that have one, in their order
abbrev pub coins_of : History → List Admitted → List TxIn → List Coin
coins_of chain entries inputs = flat_map (λ (i : TxIn). option_to_list (view_coin chain entries i.prevout)) inputs
