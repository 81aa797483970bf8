-- What holds of a pool over its chain at every moment, and of transactions whose ids tell them apart.
use Rattle.std.specs.Prelude.{◌≡◌, ◌≢◌, ◌≤◌, ℕ, length, drop, Bool, true, false, List, [], ◌∷◌, ◌++◌, Option, Some, None, IsSome}
use Rattle.std.specs.List.{All, AllPairs, Contains, list_any, flat_map}
use Rattle.std.specs.Option.{option_or}
use Rattle.gate_tx.specs.declared.Coin.{Coin}
use Rattle.gate_tx.specs.declared.OutPoint.{OutPoint}
use Rattle.gate_tx.specs.declared.TxIn.{TxIn}
use Rattle.gate_tx.specs.Tx.{Tx}
use Rattle.gate_tx.specs.Text.{IsTx, stripped}
use Rattle.gate_tx.specs.Ids.{txid_of, wtxid_of}
use Rattle.gate_standard.specs.Rules.{is_coinbase}
use Rattle.gate_chain.specs.Blocks.{Block}
use Rattle.gate_chain.specs.History.{History, first_connected}
use Rattle.gate_chain.specs.Coins.{coin_of_blocks, has_transaction, is_known_txid, is_spent_in, opening_coin_of}
use Rattle.gate_pool.specs.Pool.{Admitted, spent_by, size_of}
use Rattle.gate_pool.specs.Family.{ancestors_of, descendants_of}
use Rattle.gate_rbf.specs.declared.ParentsOf.TheVariants.{Conflicts}
use Rattle.gate_admit.specs.Coins.{view_coin}
use Rattle.gate_admit.specs.Policies.{Policy, IsPolicy, most_ancestors, most_descendants, most_descendants_size}

-- the most virtual bytes that a pool may hold, and the policy on its families
pub record Limits : Type 0 where
  pub budget : ℕ
  pub policy : Policy

abbrev pub limits_for : Policy → ℕ → Limits
limits_for policy budget = record { budget = budget; policy = policy }

-- the ancestors and the descendants of an id, its own entry among each, are within the limits of the policy. Where a replacement may
-- have the parents of all that it replaces, the size of the descendants is not: beside one conflict A36 lets it grow by the size of
-- this and all that is below it, and an ancestor of the replacement may lose a part of these alone (as in Bitcoin Core 28.0).
pub record IsLimited (policy : Policy) (entries : List Admitted) (txid : List ℕ) : Type 0 where
  pub ancestors : length (ancestors_of entries txid) ≤ most_ancestors policy
  pub ancestors_size : size_of (ancestors_of entries txid) ≤ policy.ancestors_size
  pub descendants : length (descendants_of entries txid) ≤ most_descendants policy
  pub descendants_size : policy.parents ≡ Conflicts → size_of (descendants_of entries txid) ≤ most_descendants_size policy

-- what holds of entries over a chain, however many they are, under a policy whose numbers are within their bounds
pub record IsSound (policy : Policy) (chain : History) (entries : List Admitted) : Type 0 where
  pub bounds : IsPolicy policy
  -- no two entries share an id
  pub txids : AllPairs (λ (a : Admitted) (b : Admitted). txid_of a.tx ≢ txid_of b.tx) entries
  pub wtxids : AllPairs (λ (a : Admitted) (b : Admitted). wtxid_of a.tx ≢ wtxid_of b.tx) entries
  -- no outpoint is spent twice, by two entries or by one
  pub spends : AllPairs (λ (p : OutPoint) (q : OutPoint). p ≢ q) (spent_by entries)
  -- each outpoint that is spent has a coin
  pub coins : All (λ (p : OutPoint). IsSome (view_coin chain entries p)) (spent_by entries)
  -- no entry has the txid of a coin that the chain was opened with, or of a connected block's transaction
  pub fresh : All (λ (e : Admitted). is_known_txid chain (txid_of e.tx) ≡ false) entries
  -- no entry has more virtual bytes than a standard transaction
  pub light : All (λ (e : Admitted). e.vsize ≤ 100000) entries
  -- the family of each entry is within the limits
  pub limited : All (λ (e : Admitted). IsLimited policy entries (txid_of e.tx)) entries

-- a good pool is sound, and within its budget
pub record IsGood (limits : Limits) (chain : History) (entries : List Admitted) : Type 0 where
  pub sound : IsSound limits.policy chain entries
  pub size : size_of entries ≤ limits.budget

-- the transactions of the connected blocks, in their order
abbrev pub connected_transactions : History → List Tx
connected_transactions chain = flat_map (λ (b : Block). b.transactions) chain.blocks

-- no two transactions with different forms without witnesses share a txid
abbrev pub AreApart : List Tx → Type 0
AreApart txs = (a b : Tx) → Contains txs a → Contains txs b → txid_of a ≡ txid_of b → stripped a ≡ stripped b

-- the first transaction of a block is a coinbase
abbrev pub begins_with_coinbase : List Tx → Bool
begins_with_coinbase [] = false
begins_with_coinbase (tx ∷ txs) = is_coinbase tx.inputs

-- a chain when it had these blocks and then one more
abbrev pub chain_up_to : History → List Block → Block → History
chain_up_to chain before b = record { first = chain.first; coins = chain.coins; times = chain.times; blocks = before ++ b ∷ [] }

-- each connected block begins with a coinbase, its transactions have a text, and those behind the first spend outputs of
-- transactions that the chain knew once it had that block
pub record IsSettled (chain : History) : Type 0 where
  pub coinbases : (b : Block) → Contains chain.blocks b → begins_with_coinbase b.transactions ≡ true
  pub spelled : (tx : Tx) → Contains (connected_transactions chain) tx → IsTx tx
  pub founded : (before after : List Block) (b : Block) → chain.blocks ≡ before ++ b ∷ after → (tx : Tx) → Contains (drop 1 b.transactions) tx → (i : TxIn) → Contains tx.inputs i
      → is_known_txid (chain_up_to chain before b) i.prevout.txid ≡ true

-- the coin that a chain's opening or one of its blocks made at an outpoint, spent or not
abbrev pub coin_made_at : History → OutPoint → Option Coin
coin_made_at chain p = option_or (opening_coin_of chain.coins p) (coin_of_blocks (first_connected chain) chain.blocks p)

-- each outpoint that a connected block spends has a coin that was made by then, and no block below spends it
pub record SpendsCoins (chain : History) : Type 0 where
  pub made : (before after : List Block) (b : Block) → chain.blocks ≡ before ++ b ∷ after → (p : OutPoint) → is_spent_in p b ≡ true
      → IsSome (coin_made_at (chain_up_to chain before b) p)
  pub once : (before after : List Block) (b : Block) → chain.blocks ≡ before ++ b ∷ after → (p : OutPoint) → is_spent_in p b ≡ true
      → list_any (is_spent_in p) before ≡ false

-- no connected block has a transaction of the submission's txid
abbrev pub IsUnconnected : History → Option Tx → Type 0
IsUnconnected chain None = Unit {0}
IsUnconnected chain (Some tx) = list_any (has_transaction (txid_of tx)) chain.blocks ≡ false
