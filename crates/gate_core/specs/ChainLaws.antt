-- What the chain's caller changes by what it says is learnt and forgotten, and what it leaves, in plain words.
use Rattle.std.specs.Prelude.{◌≡◌, ◌≢◌, ◌<◌, ℕ, Contains, is_some, length, Some}
use Rattle.gate_tx.specs.declared.TxIn.{TxIn}
use Rattle.gate_tx.specs.Ids.{txid_of, wtxid_of}
use Rattle.gate_tx.specs.Tx.{Tx}
use Rattle.gate_chain.specs.Coins.{coin_of, opened_with_of}
use Rattle.gate_chain.specs.declared.OpeningCoin.{OpeningCoin}
use Rattle.gate_admit.specs.declared.Attempt.TheVariants.{First}
use Rattle.gate_admit.specs.Rules.{decision_of}
use Rattle.gate_admit.specs.Submission.{submit_of}
use Rattle.gate_admit.specs.Verdicts.{verdict_of}
use Rattle.gate_submission.specs.declared.VerdictRow.{VerdictRow}
use Rattle.gate_message.specs.declared.caller.Caller.TheVariants.{Chain}
use Rattle.gate_message.specs.declared.chain_event.ChainEvent.TheVariants.{LearnCoin, LearnVerdict, Forget}
use Rattle.gate_message.specs.declared.event.Event.{Event}
use Rattle.gate_message.specs.declared.event.Event.TheVariants.{Tx as Submit, Chain as OfChain}
use Rattle.gate_message.specs.Callers.{caller_of}
use Rattle.gate_core.specs.Steps.{step_of}
use Rattle.gate_core.specs.World.{World, standing_of}

-- events of other callers leave the chain and the verdicts as they were
abbrev pub OthersLeaveTheChain : Type 0
OthersLeaveTheChain = (w : World) (event : Event) → caller_of event ≢ Chain → ((step_of w event).1.chain ≡ w.chain) × ((step_of w event).1.verdicts ≡ w.verdicts)

-- a state but for its chain and its verdicts, which are those of another
abbrev pub apart_from_chain : World → World → World
apart_from_chain w other = record w { chain = other.chain; verdicts = other.verdicts }

-- what is learnt and forgotten changes the chain and the verdicts alone: the pool, its floor, the sessions and the settings stay
pub record LearningLeavesTheRest : Type 0 where
  pub coins : (w : World) (coin : OpeningCoin) → (step_of w (OfChain (LearnCoin coin))).1 ≡ apart_from_chain w (step_of w (OfChain (LearnCoin coin))).1
  pub verdicts : (w : World) (row : VerdictRow) → (step_of w (OfChain (LearnVerdict row))).1 ≡ apart_from_chain w (step_of w (OfChain (LearnVerdict row))).1
  pub forgetting : (w : World) (blocks : ℕ) → (step_of w (OfChain (Forget blocks))).1 ≡ apart_from_chain w (step_of w (OfChain (Forget blocks))).1

-- what the answer to a transaction rests on is the same in two states: the coins of its inputs, the verdicts on them, whether an
-- opening coin came from it, and which of its own outputs are unspent coins
pub record AsksTheSame (w v : World) (tx : Tx) : Type 0 where
  pub coins : (i : TxIn) → Contains tx.inputs i → coin_of v.chain i.prevout ≡ coin_of w.chain i.prevout
  pub verdicts : (input : ℕ) → verdict_of v.verdicts (wtxid_of tx) input ≡ verdict_of w.verdicts (wtxid_of tx) input
  pub opened : opened_with_of v.chain (txid_of tx) ≡ opened_with_of w.chain (txid_of tx)
  pub outputs : (index : ℕ) → index < length tx.outputs
      → is_some (coin_of v.chain (record { txid = txid_of tx; index = index })) ≡ is_some (coin_of w.chain (record { txid = txid_of tx; index = index }))

-- a submission has one answer before and after blocks, coins and verdicts are forgotten, if what the answer rests on is the same:
-- one decision, the same pool and floor after it, and one reply to a peer
pub record ForgettingChangesNoAnswer : Type 0 where
  pub decision : (w : World) (blocks : ℕ) (tx : Tx) → AsksTheSame w (step_of w (OfChain (Forget blocks))).1 tx
      → decision_of First (standing_of (step_of w (OfChain (Forget blocks))).1) (Some tx) ≡ decision_of First (standing_of w) (Some tx)
  pub outcome : (w : World) (blocks now : ℕ) (tx : Tx) → AsksTheSame w (step_of w (OfChain (Forget blocks))).1 tx
      → submit_of (standing_of (step_of w (OfChain (Forget blocks))).1) (Some tx) now w.budget ≡ submit_of (standing_of w) (Some tx) now w.budget
  pub reply : (w : World) (blocks peer now : ℕ) (tx : Tx) → AsksTheSame w (step_of w (OfChain (Forget blocks))).1 tx
      → (step_of (step_of w (OfChain (Forget blocks))).1 (Submit peer now (Some tx))).0 ≡ (step_of w (Submit peer now (Some tx))).0
