-- What holds of a chain's maps.
use Rattle.std.specs.Prelude.{◌≡◌, ℕ, ◌+◌, ◌≤◌, Bool, true, List, [], ◌∷◌, ◌++◌, map, take, length, None, is_some, Result, Ok, Err}
use Rattle.std.specs.List.{list_any}
use Rattle.std.specs.Map.{lookup}
use Rattle.std.specs.Str.{bytes_eq}
use Rattle.gate_tx.specs.declared.OutPoint.{OutPoint}
use Rattle.gate_tx.specs.Coins.{point_eq}
use Rattle.gate_tx.specs.Tx.{Tx}
use Rattle.gate_chain.specs.Blocks.{Block}
use Rattle.gate_chain.specs.declared.connected.Connected.{Connected}
use Rattle.gate_chain.specs.declared.marked.Marked.{Marked}
use Rattle.gate_chain.specs.declared.fault.ChainFault.{ChainFault}
use Rattle.gate_chain.specs.declared.opening.OpeningCoin.{OpeningCoin}
use Rattle.gate_chain.specs.Coins.{is_spent_in, has_txid}
use Rattle.gate_chain.specs.Connecting.{grown, with_part, transaction_denial, transactions_denial, Tells}
use Rattle.gate_chain.specs.Headers.{header_time}
use Rattle.gate_chain.specs.History.{History, first_connected}
use Rattle.gate_chain.specs.Keeping.{IsOpening, opening_coins}
use Rattle.gate_chain.specs.Marking.{coins_in, coins_made, ids_of, is_marked}

-- some connected block spends an outpoint
abbrev pub is_spent : History → OutPoint → Bool
is_spent h p = list_any (is_spent_in p) h.blocks

-- each outpoint that a connected block spends has a coin that was made
pub record SpentMade (h : History) : Type 0 where
  pub made : (p : OutPoint) → is_spent h p ≡ true → is_some (lookup (point_eq p) (coins_made h)) ≡ true

-- the maps of a history
pub record AreMaps (h : History) (es : List (OutPoint × Marked)) (txids : List (List ℕ)) : Type 0 where
  pub coins_are : coins_in es ≡ coins_made h
  pub marks_are : (p : OutPoint) → is_marked es p ≡ is_spent h p
  pub txids_are : txids ≡ ids_of h.blocks

-- these are the ids of the coins of a history's opening, and its next block has this height
pub record Opens (h : History) (opened : List (List ℕ)) (height : ℕ) : Type 0 where
  pub ids_are : (id : List ℕ) → list_any (bytes_eq id) opened ≡ has_txid id h.coins
  pub height_is : height ≡ first_connected h + length h.blocks

-- a block on top of a history can be taken off again: it is known how many coins and ids the blocks below it made
pub record IsConnected (h : History) (c : Connected) : Type 0 where
  pub faultless : transactions_denial h c.block.header [] c.block.transactions ≡ None
  pub spent_made : SpentMade h
  pub coins_are : c.coins + length h.coins ≡ length (coins_made h)
  pub ids_are : c.ids ≡ length (ids_of h.blocks)

-- the maps after the next transaction is entered, or isn't
abbrev pub Enters : {X : Type 0} → History → List ℕ → List Tx → Tx → Result X ChainFault → List (OutPoint × Marked) → List (List ℕ) → Type 0
Enters h header done t (Ok x) es txids = AreMaps (with_part h header (done ++ t ∷ [])) es txids × (transaction_denial h header done t ≡ None)
Enters h header done t (Err e) es txids = AreMaps (with_part h header done) es txids × Tells e (transaction_denial h header done t)

-- the maps after a block is connected, or isn't
abbrev pub Connects : History → Block → Result Connected ChainFault → List (OutPoint × Marked) → List (List ℕ) → Type 0
Connects h block (Ok c) es txids = (c.block ≡ block) × IsConnected h c × AreMaps (grown h block) es txids × (transactions_denial h block.header [] block.transactions ≡ None)
Connects h block (Err e) es txids = AreMaps h es txids × Tells e (transactions_denial h block.header [] block.transactions)

-- the history of blocks on top of an opening whose first time is that of height `start`
abbrev pub history : ℕ → List OpeningCoin → List ℕ → List Connected → History
history start coins times blocks = record { first = start; coins = coins; times = times; blocks = map (λ c. c.block) blocks }

-- the coins of the opening, which are the first of the map
abbrev pub opening_in : ℕ → List (OutPoint × Marked) → List OpeningCoin
opening_in opened es = opening_coins (take opened (coins_in es))

-- what holds of a chain: no coin of its opening stands above it, its maps are those of its history, and each block can be
-- taken off. The first of its times is that of height `start`, and so many as `first` of them are the opening's
pub record IsLinked (start : ℕ) (coins : List OpeningCoin) (opened first : ℕ) (opened_ids : List (List ℕ)) (times : List ℕ) (blocks : List Connected) (es : List (OutPoint × Marked)) (txids : List (List ℕ)) : Type 0 where
  pub opening : IsOpening start coins (take first times)
  pub opened_is : opened ≡ length coins
  pub opened_ids_are : (id : List ℕ) → list_any (bytes_eq id) opened_ids ≡ has_txid id coins
  pub times_are : times ≡ take first times ++ map (λ c. header_time c.block.header) blocks
  pub within : first ≤ length times
  pub few : length times + start ≤ 10000001
  pub maps : AreMaps (history start coins (take first times) blocks) es txids
  pub each : (before after : List Connected) (c : Connected) → blocks ≡ before ++ c ∷ after → IsConnected (history start coins (take first times) before) c

-- what is kept belongs together, and the opening's coins are the first ones of the map
abbrev pub IsLinkedFrom : ℕ → ℕ → ℕ → List (List ℕ) → List ℕ → List Connected → List (OutPoint × Marked) → List (List ℕ) → Type 0
IsLinkedFrom start opened first opened_ids times blocks es txids = IsLinked start (opening_in opened es) opened first opened_ids times blocks es txids
