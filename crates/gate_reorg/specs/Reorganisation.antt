-- What a change of the chain does to a pool.
use Rattle.std.specs.Prelude.{ℕ, ◌+◌, ◌==◌, Bool, false, not, ◌||◌, filter, map, List, [], ◌∷◌, Option, Some, None, Result, Ok, Err, if◌then◌else◌}
use Rattle.std.specs.List.{list_any}
use Rattle.std.specs.Str.{bytes_eq}
use Rattle.gate_tx.specs.declared.Coin.{Coin}
use Rattle.gate_tx.specs.declared.TxIn.{TxIn}
use Rattle.gate_tx.specs.Ids.{txid_of}
use Rattle.gate_tx.specs.Tx.{Tx}
use Rattle.gate_rules.specs.declared.Denial.{Denial}
use Rattle.gate_chain.specs.History.{History}
use Rattle.gate_chain.specs.Times.{tip_of}
use Rattle.gate_locks.specs.Finality.{is_final_at}
use Rattle.gate_locks.specs.Locks.{median_at, sequence_locks_met_by}
use Rattle.gate_pool.specs.Pool.{Admitted, has_txid}
use Rattle.gate_pool.specs.Family.{names, is_conflict, without_below, entered}
use Rattle.gate_trim.specs.Expiry.{expired}
use Rattle.gate_trim.specs.Trimming.{Trimmed, trim_of}
use Rattle.gate_admit.specs.declared.Attempt.TheVariants.{Again}
use Rattle.gate_admit.specs.declared.Grant.{Grant}
use Rattle.gate_admit.specs.Coins.{view_coin}
use Rattle.gate_admit.specs.Rules.{decision_of, is_immature}
use Rattle.gate_admit.specs.Standing.{Standing, standing}
use Rattle.gate_admit.specs.Submission.{admitted}
use Rattle.gate_admit.specs.Policies.{Policy}
use Rattle.gate_admit.specs.Verdicts.{VerdictTable}

-- ---- What a pool follows

-- the terms of a change: the chain that it led to, the verdicts on scripts, what the operator asks of families and of
-- replacements, the second, and the budget in virtual bytes
pub record Terms : Type 0 where
  pub chain : History
  pub verdicts : VerdictTable
  pub policy : Policy
  pub second : ℕ
  pub budget : ℕ

-- the standing over which a transaction is tried again; no fee is asked for, so that the pool's floor does not matter
abbrev pub standing_again : Terms → List Admitted → Standing
standing_again under entries = standing under.chain entries 0 under.verdicts under.policy

-- ---- Transactions of blocks that are connected

-- the entries, except that of an id; entries that spend its outputs stay
abbrev pub without_txid : List Admitted → List ℕ → List Admitted
without_txid entries txid = filter (λ e. not (has_txid e txid)) entries

-- the entries after a block confirmed a transaction: its own entry leaves alone, and entries that spend an outpoint that it
-- spends leave with all below them
unfoldable pub confirmed : List Admitted → Tx → List Admitted
confirmed entries tx = without_below (is_conflict tx) (without_txid entries (txid_of tx))

-- the entries after transactions were confirmed, one after another
abbrev pub all_confirmed : List Admitted → List Tx → List Admitted
all_confirmed entries [] = entries
all_confirmed entries (tx ∷ txs) = all_confirmed (confirmed entries tx) txs

-- ---- Transactions of blocks that were disconnected

-- one of the transactions has this id
abbrev pub has_id : List Tx → List ℕ → Bool
has_id txs txid = list_any (λ (tx : Tx). bytes_eq (txid_of tx) txid) txs

-- those of some transactions whose ids no new one has
abbrev pub unconfirmed : List Tx → List Tx → List Tx
unconfirmed new txs = filter (λ (tx : Tx). not (has_id new (txid_of tx))) txs

-- the entries after the decision on such a transaction: it enters at this second, in place of entries that conflict with
-- it; or entries that spend its outputs leave with all below them
abbrev pub tried : List Admitted → Tx → ℕ → Result Grant Denial → List Admitted
tried entries tx now (Ok grant) = entered entries (admitted tx grant now)
tried entries tx now (Err denial) = without_below (λ e. names e (txid_of tx)) entries

-- the entries after a transaction was tried again over the chain
unfoldable pub tried_again : Terms → List Admitted → Tx → List Admitted
tried_again under entries tx = tried entries tx under.second (decision_of Again (standing_again under entries) (Some tx))

-- the entries after transactions were tried again, one after another
abbrev pub all_tried_again : Terms → List Admitted → List Tx → List Admitted
all_tried_again under entries [] = entries
all_tried_again under entries (tx ∷ txs) = all_tried_again under (tried_again under entries tx) txs

-- ---- Entries that the next block cannot have

-- the height of a coin, or 0 if there is none
abbrev pub height_of : Option Coin → ℕ
height_of None = 0
height_of (Some coin) = coin.height

-- the heights of the coins of inputs, one for each
abbrev pub input_heights : History → List Admitted → List TxIn → List ℕ
input_heights chain entries inputs = map (λ (i : TxIn). height_of (view_coin chain entries i.prevout)) inputs

-- there is a coin, of a coinbase that stands less than 100 blocks below the next block
abbrev pub is_young_coin : ℕ → Option Coin → Bool
is_young_coin next_height None = false
is_young_coin next_height (Some coin) = is_immature next_height coin

abbrev pub spends_young_coin : History → List Admitted → List TxIn → Bool
spends_young_coin chain entries inputs = list_any (λ (i : TxIn). is_young_coin (tip_of chain + 1) (view_coin chain entries i.prevout)) inputs

-- a transaction is not final in the next block, a relative lock is not met there, or it spends a coinbase too early
unfoldable pub is_premature : History → List Admitted → Tx → Bool
is_premature chain entries tx =
    not (is_final_at tx (tip_of chain + 1) (median_at chain (tip_of chain)))
    || (not (sequence_locks_met_by tx (input_heights chain entries tx.inputs) chain)
    || spends_young_coin chain entries tx.inputs)

-- the entries, except those that the next block cannot have and all below them
abbrev pub without_premature : History → List Admitted → List Admitted
without_premature chain entries = without_below (λ e. is_premature chain entries e.tx) entries

-- ---- The whole

-- the entries after the new transactions were confirmed and the old ones tried again
abbrev pub brought_back : Terms → List Admitted → List Tx → List Tx → List Admitted
brought_back under entries new old = all_tried_again under (all_confirmed entries new) (unconfirmed new old)

-- the entries and the floor after that, without entries that the next block cannot have, are too old or pay too little
unfoldable pub returned : Terms → List Admitted → ℕ → List Tx → List Tx → Trimmed
returned under entries floor new old =
    trim_of under.policy.incremental_rate under.budget (expired under.policy.stay under.second (without_premature under.chain (brought_back under entries new old))) floor

-- the entries and the floor after `depth` blocks were disconnected; if none was, entries are confirmed and nothing else is
-- done
unfoldable pub pool_after : ℕ → Terms → List Admitted → ℕ → List Tx → List Tx → Trimmed
pool_after depth under entries floor new old =
    if depth == 0 then record { entries = all_confirmed entries new; floor = floor }
    else returned under entries floor new old
