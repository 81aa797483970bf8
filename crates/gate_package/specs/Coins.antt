-- The coins of a transaction's inputs behind other transactions that are no entries.
use Rattle.std.specs.Prelude.{ℕ, ◌+◌, Bool, false, ◌&&◌, ◌||◌, List, [], ◌∷◌, Option, is_none, option_and_then, slice_get, find}
use Rattle.std.specs.List.{list_any, flat_map}
use Rattle.std.specs.Option.{option_or, option_to_list}
use Rattle.std.specs.Str.{bytes_eq}
use Rattle.gate_bytes.specs.Order.{Rule}
use Rattle.gate_tx.specs.declared.Coin.{Coin}
use Rattle.gate_tx.specs.declared.OutPoint.{OutPoint}
use Rattle.gate_tx.specs.declared.TxIn.{TxIn}
use Rattle.gate_tx.specs.Ids.{txid_of}
use Rattle.gate_tx.specs.Tx.{Tx}
use Rattle.gate_rules.specs.declared.Denial.{Denial}
use Rattle.gate_rules.specs.declared.Denial.TheVariants.{AlreadyKnown, MissingOrSpent}
use Rattle.gate_chain.specs.History.{History}
use Rattle.gate_chain.specs.Coins.{coin_made, opened_with_of}
use Rattle.gate_chain.specs.Times.{tip_of}
use Rattle.gate_pool.specs.Pool.{Admitted}
use Rattle.gate_admit.specs.Coins.{view_coin}
use Rattle.gate_admit.specs.Rules.{is_chain_coin_from}

-- the coin that the first of these with its txid makes at an outpoint, if a script can spend it: not of a coinbase, and as though
-- its transaction were in a block of this height
abbrev pub made_by : ℕ → List Tx → OutPoint → Option Coin
made_by height others point =
    option_and_then (λ (t : Tx). option_and_then (coin_made height false) (slice_get t.outputs point.index)) (find (λ (t : Tx). bytes_eq (txid_of t) point.txid) others)

-- the output of one of these others, as though it were in the next block; else the coin of the view
abbrev pub view_beside : History → List Tx → List Admitted → OutPoint → Option Coin
view_beside chain others entries point = option_or (made_by (tip_of chain + 1) others point) (view_coin chain entries point)

abbrev pub misses_coin_beside : History → List Tx → List Admitted → List TxIn → Bool
misses_coin_beside chain others entries inputs = list_any (λ (i : TxIn). is_none (view_beside chain others entries i.prevout)) inputs

-- the coins of the inputs that have one, in their order
abbrev pub coins_beside : History → List Tx → List Admitted → List TxIn → List Coin
coins_beside chain others entries inputs = flat_map (λ (i : TxIn). option_to_list (view_beside chain others entries i.prevout)) inputs

-- A24 and A25
unfoldable pub coin_rules_beside : History → List Tx → List Admitted → Tx → List (Rule Denial)
coin_rules_beside chain others entries tx =
    (AlreadyKnown, (misses_coin_beside chain others entries tx.inputs && is_chain_coin_from chain (txid_of tx) 0 tx.outputs) || opened_with_of chain (txid_of tx))
    ∷ (MissingOrSpent, misses_coin_beside chain others entries tx.inputs)
    ∷ []
