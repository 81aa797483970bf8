-- What holds of every state, and the premise that transactions are told apart by their ids.
use Rattle.std.specs.Prelude.{◌≡◌, List, ◌++◌, map, Contains}
use Rattle.gate_tx.specs.Text.{IsTx}
use Rattle.gate_tx.specs.Tx.{Tx}
use Rattle.gate_pool.specs.Pool.{Admitted}
use Rattle.gate_admit.specs.Good.{Limits, IsGood, IsSettled, AreApart, SpendsCoins, connected_transactions, limits_for}
use Rattle.gate_message.specs.declared.event.Event.{Event}
use Rattle.gate_message.specs.declared.reply.Reply.{Reply}
use Rattle.gate_message.specs.Spelled.{transactions_of}
use Rattle.gate_core.specs.World.{World}
use Rattle.gate_core.specs.Steps.{step_of}

-- the budget of a state's pool, and the policy on its families
abbrev pub limits_of : World → Limits
limits_of w = limits_for w.policy w.budget

-- the connected blocks are well formed and spend coins that were made, each once, the pool is good over the chain, and each
-- entry's transaction has a text
pub record IsGoodWorld (w : World) : Type 0 where
  pub chain : IsSettled w.chain
  pub spends : SpendsCoins w.chain
  pub pool : IsGood (limits_of w) w.chain w.pool
  pub spelled : (e : Admitted) → Contains w.pool e → IsTx e.tx

-- the transactions of a state: those of the connected blocks and those of the pool
abbrev pub transactions_in : World → List Tx
transactions_in w = connected_transactions w.chain ++ map (λ (e : Admitted). e.tx) w.pool

-- no two transactions of the state and the event share a txid, unless their forms without witnesses are the same
abbrev pub IsApartFrom : World → Event → Type 0
IsApartFrom w event = AreApart (transactions_in w ++ transactions_of event)

-- what a step from a good state gives
abbrev pub StepGives : World → Event → Reply → World → Type 0
StepGives old event reply new = IsGoodWorld old → IsApartFrom old event → ((reply, new) ≡ step_of old event) × IsGoodWorld new
