-- The pool: its entries in order of admission, and what a search of them finds.
use Rattle.std.specs.Prelude.{◌≤◌, ◌+◌, ℕ, nat_lt, Bool, List, Option, Some, None, find, length, map, sum_by}
use Rattle.std.specs.List.{flat_map}
use Rattle.std.specs.Str.{bytes_eq}
use Rattle.gate_tx.specs.declared.OutPoint.{OutPoint}
use Rattle.gate_tx.specs.declared.TxIn.{TxIn}
use Rattle.gate_tx.specs.Tx.{Tx}
use Rattle.gate_tx.specs.Ids.{txid_of, wtxid_of}
use Rattle.gate_tx.specs.Money.{max_money}
use Rattle.gate_tx.specs.Coins.{spends}

-- an entry: a transaction, its fee in satoshi, its size in virtual bytes, and the second at which it was admitted
pub record Admitted : Type 0 where
  pub tx : Tx
  pub fee : ℕ
  pub vsize : ℕ
  pub time : ℕ

-- the largest size of an entry, in virtual bytes
abbrev pub largest_vsize : ℕ
largest_vsize = 10_000_000

-- the bounds of an entry's numbers
pub record IsBounded (entry : Admitted) : Type 0 where
  pub fee : entry.fee ≤ max_money
  pub least : 1 ≤ entry.vsize
  pub most : entry.vsize ≤ largest_vsize

-- an entry was admitted before this second
abbrev pub is_before : ℕ → Admitted → Bool
is_before time e = nat_lt e.time time

-- how many entries, and how many inputs they have together
pub record Room : Type 0 where
  pub entries : ℕ
  pub inputs : ℕ

-- the room that entries take
abbrev pub room_of : List Admitted → Room
room_of entries = record { entries = length entries; inputs = sum_by (λ e. length e.tx.inputs) entries }

-- there is no less room than before
pub record IsNotLess (old new : Room) : Type 0 where
  pub entries : old.entries ≤ new.entries
  pub inputs : old.inputs ≤ new.inputs

-- a pool: its entries in order of admission, those that it had when its log began, the room that was taken beforehand, and what
-- has left since the log began, also of what had come since. So many entries with so many inputs together as `room` says are
-- put in without memory; of these the next newcomer has no more than `next` inputs. Room is no part of what a pool holds: only
-- a call that says so keeps it
pub record Pooled : Type 0 where
  pub entries : List Admitted
  pub before : List Admitted
  pub room : Room
  pub next : ℕ
  pub left : Room

-- what a pool has and what has left it since its log began, together
abbrev pub all_of : Pooled → Room
all_of pool = record { entries = pool.left.entries + length pool.entries; inputs = pool.left.inputs + (room_of pool.entries).inputs }

-- there is room for all that has left since the log began
pub record IsRewindable (pool : Pooled) : Type 0 where
  pub entries : pool.left.entries ≤ pool.room.entries
  pub inputs : pool.left.inputs ≤ pool.room.inputs

-- the outpoints that a transaction spends, input by input
abbrev pub spends_of : Tx → List OutPoint
spends_of tx = map (λ (i : TxIn). i.prevout) tx.inputs

-- the outpoints that the entries spend, entry by entry
abbrev pub spent_by : List Admitted → List OutPoint
spent_by entries = flat_map (λ e. spends_of e.tx) entries

abbrev pub has_txid : Admitted → List ℕ → Bool
has_txid e txid = bytes_eq (txid_of e.tx) txid

abbrev pub has_wtxid : Admitted → List ℕ → Bool
has_wtxid e wtxid = bytes_eq (wtxid_of e.tx) wtxid

abbrev pub has_point : Admitted → OutPoint → Bool
has_point e point = spends e.tx.inputs point

-- the first entry that has an id, or that spends an outpoint
abbrev pub entry_by_txid : List Admitted → List ℕ → Option Admitted
entry_by_txid entries txid = find (λ e. has_txid e txid) entries

abbrev pub entry_by_wtxid : List Admitted → List ℕ → Option Admitted
entry_by_wtxid entries wtxid = find (λ e. has_wtxid e wtxid) entries

abbrev pub spender_of : List Admitted → OutPoint → Option Admitted
spender_of entries point = find (λ e. spends e.tx.inputs point) entries

-- the txids in order of admission
abbrev pub listing_of : List Admitted → List (List ℕ)
listing_of entries = map (λ e. txid_of e.tx) entries

-- the sum of the virtual sizes
abbrev pub size_of : List Admitted → ℕ
size_of entries = sum_by (λ e. e.vsize) entries

-- the inputs of an entry, if there is one
abbrev pub inputs_in : Option Admitted → ℕ
inputs_in None = 0
inputs_in (Some e) = length e.tx.inputs

-- the inputs of the entries of some ids, added up
abbrev pub inputs_of : List Admitted → List (List ℕ) → ℕ
inputs_of entries txids = sum_by (λ txid. inputs_in (entry_by_txid entries txid)) txids
