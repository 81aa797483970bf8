-- What a chain event keeps, and what holds after it.
use Rattle.std.specs.Prelude.{◌≡◌, ◌≢◌, ◌≤◌, ℕ, ◌+◌, true, false, Contains, map, length, List, ◌++◌, None}
use Rattle.std.specs.List.{All, AllPairs, list_any}
use Rattle.gate_bytes.specs.Order.{first_failing}
use Rattle.gate_tx.specs.declared.OutPoint.{OutPoint}
use Rattle.gate_tx.specs.Ids.{txid_of}
use Rattle.gate_tx.specs.Text.{IsTx}
use Rattle.gate_tx.specs.Tx.{Tx}
use Rattle.gate_chain.specs.Blocks.{Block}
use Rattle.gate_chain.specs.Coins.{has_transaction}
use Rattle.gate_chain.specs.History.{History}
use Rattle.gate_chain.specs.Times.{tip_of}
use Rattle.gate_locks.specs.Finality.{is_final_at}
use Rattle.gate_locks.specs.Locks.{median_at, sequence_locks_met_by}
use Rattle.gate_block.specs.Switching.{last_blocks, switched, switch_rules}
use Rattle.gate_pool.specs.Pool.{Admitted, spent_by, size_of}
use Rattle.gate_admit.specs.Good.{AreApart, IsGood, IsSettled, Limits, SpendsCoins, connected_transactions, limits_for}
use Rattle.gate_admit.specs.Standing.{Standing}
use Rattle.gate_admit.specs.Truc.{TrucHolds}
use Rattle.gate_reorg.specs.Reorganisation.{input_heights, spends_young_coin}
use Rattle.gate_submission.specs.Blocks.{transactions_of}
use Rattle.gate_reorg.specs.Events.{event_of}

-- the transactions that an event meets: those of the connected blocks, of the entries, and of the new blocks
abbrev pub met_by : History → List Admitted → List Block → List Tx
met_by chain entries blocks = (connected_transactions chain ++ map (λ (e : Admitted). e.tx) entries) ++ transactions_of blocks

-- a chain and entries before new blocks come: the chain is settled, the transactions of entries and new blocks have a text, no
-- two transactions with different forms share a txid, and the pool is good
pub record IsReadyFor (limits : Limits) (chain : History) (entries : List Admitted) (blocks : List Block) : Type 0 where
  pub settled : IsSettled chain
  pub entries_spelled : (e : Admitted) → Contains entries e → IsTx e.tx
  pub blocks_spelled : (tx : Tx) → Contains (transactions_of blocks) tx → IsTx tx
  pub apart : AreApart (met_by chain entries blocks)
  pub good : IsGood limits chain entries

-- what an event keeps: the chain is settled, and the pool is good
pub record StaysGood (limits : Limits) (chain : History) (entries : List Admitted) : Type 0 where
  pub settled : IsSettled chain
  pub good : IsGood limits chain entries

-- an event that no rule denies keeps the chain settled and the pool good
abbrev pub EventsKeepPoolsGood : Type 0
EventsKeepPoolsGood = (over : Standing) (depth : ℕ) (blocks : List Block) (now budget : ℕ) →
    let limits = limits_for over.policy budget in
    let after = event_of over depth blocks now budget in
    first_failing (switch_rules over.chain depth blocks) ≡ None → IsReadyFor limits over.chain over.entries blocks
    → StaysGood limits after.chain after.entries

-- after an event that no rule denies, the connected blocks spend coins that were made, each once, if they did before
abbrev pub EventsSpendCoins : Type 0
EventsSpendCoins = (over : Standing) (depth : ℕ) (blocks : List Block) (now budget : ℕ)
    → first_failing (switch_rules over.chain depth blocks) ≡ None → SpendsCoins over.chain → SpendsCoins (event_of over depth blocks now budget).chain

-- the next block may have the transaction: it is final there, its relative locks are met, and it spends no coin of a coinbase
-- that is less than 100 blocks below
pub record IsRipe (chain : History) (entries : List Admitted) (tx : Tx) : Type 0 where
  pub final : is_final_at tx (tip_of chain + 1) (median_at chain (tip_of chain)) ≡ true
  pub unlocked : sequence_locks_met_by tx (input_heights chain entries tx.inputs) chain ≡ true
  pub mature : spends_young_coin chain entries tx.inputs ≡ false

-- after an event that disconnects blocks, the next block may have each entry
abbrev pub ReturnsLeaveTheRipe : Type 0
ReturnsLeaveTheRipe = (over : Standing) (depth : ℕ) (blocks : List Block) (now budget : ℕ) →
    let after = event_of over depth blocks now budget in
    depth ≢ 0 → All (λ (e : Admitted). IsRipe after.chain after.entries e.tx) after.entries

-- after an event that no rule denies, no connected block has the transaction of an entry
abbrev pub EntriesAreUnconfirmed : Type 0
EntriesAreUnconfirmed = (over : Standing) (depth : ℕ) (blocks : List Block) (now budget : ℕ) →
    let after = event_of over depth blocks now budget in
    first_failing (switch_rules over.chain depth blocks) ≡ None
    → IsReadyFor (limits_for over.policy budget) over.chain over.entries blocks
    → All (λ (e : Admitted). list_any (has_transaction (txid_of e.tx)) after.chain.blocks ≡ false) after.entries

-- blocks that are disconnected and then connected again leave the chain as it was, all its coins and times
abbrev pub BlocksComeBack : Type 0
BlocksComeBack = (chain : History) (depth : ℕ) (blocks : List Block) → switched (switched chain depth blocks) (length blocks) (last_blocks chain depth) ≡ chain

-- each transaction of the chain and of an entry after an event was one of them before, or is in one of the new blocks
abbrev pub EventsBringNothingElse : Type 0
EventsBringNothingElse = (over : Standing) (depth : ℕ) (blocks : List Block) (now budget : ℕ) (tx : Tx) →
    let after = event_of over depth blocks now budget in
    Contains (connected_transactions after.chain ++ map (λ (e : Admitted). e.tx) after.entries) tx
    → Contains (met_by over.chain over.entries blocks) tx

-- no event lowers the floor
abbrev pub FloorsNeverFall : Type 0
FloorsNeverFall = (over : Standing) (depth : ℕ) (blocks : List Block) (now budget : ℕ) → over.floor ≤ (event_of over depth blocks now budget).floor

-- an event that disconnects no block leaves the floor as it was, and adds no entry
pub record BlocksOnlyTake : Type 0 where
  pub floor : (over : Standing) (blocks : List Block) (now budget : ℕ) → (event_of over 0 blocks now budget).floor ≡ over.floor
  pub entries : (over : Standing) (blocks : List Block) (now budget : ℕ) (e : Admitted)
      → Contains (event_of over 0 blocks now budget).entries e → Contains over.entries e

-- an event that disconnects no block leaves families of version 3 small, if they were
abbrev pub BlocksKeepTruc : Type 0
BlocksKeepTruc = (over : Standing) (blocks : List Block) (now budget : ℕ) → TrucHolds over.entries → TrucHolds (event_of over 0 blocks now budget).entries

-- whatever the blocks are, no outpoint is spent by two entries, or twice by one, if none was before
abbrev pub EventsSpendOnce : Type 0
EventsSpendOnce = (over : Standing) (depth : ℕ) (blocks : List Block) (now budget : ℕ)
    → AllPairs (λ (p : OutPoint) (q : OutPoint). p ≢ q) (spent_by over.entries)
    → AllPairs (λ (p : OutPoint) (q : OutPoint). p ≢ q) (spent_by (event_of over depth blocks now budget).entries)

-- whatever the blocks are, entries that are within the budget stay within it
abbrev pub EventsKeepTheBudget : Type 0
EventsKeepTheBudget = (over : Standing) (depth : ℕ) (blocks : List Block) (now budget : ℕ)
    → size_of over.entries ≤ budget → size_of (event_of over depth blocks now budget).entries ≤ budget
