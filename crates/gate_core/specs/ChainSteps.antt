-- What an event of the chain's caller gives: the reply, and the state after it.
use Rattle.std.specs.Prelude.{ℕ, ◌-◌, Bool, List, [], ◌∷◌, ◌++◌, drop, length, Option, Some, None, is_some}
use Rattle.gate_bytes.specs.Order.{Rule, first_failing}
use Rattle.gate_tx.specs.declared.OutPoint.{OutPoint}
use Rattle.gate_chain.specs.Blocks.{Block}
use Rattle.gate_chain.specs.Forgetting.{forgotten, dropped_coins, forget_denial}
use Rattle.gate_chain.specs.Learning.{learnt, learn_rules}
use Rattle.gate_rules.specs.declared.ChainDenial.{ChainDenial}
use Rattle.gate_rules.specs.declared.ChainDenial.TheVariants.{CoinKnown}
use Rattle.gate_chain.specs.declared.OpeningCoin.{OpeningCoin}
use Rattle.gate_pool.specs.Pool.{Admitted, entry_by_txid, spender_of}
use Rattle.gate_admit.specs.Verdicts.{row_rules, rows_over, with_row}
use Rattle.gate_reorg.specs.Events.{Happened, event_rules, event_of}
use Rattle.gate_submission.specs.Blocks.{present}
use Rattle.gate_submission.specs.declared.VerdictRow.{VerdictRow}
use Rattle.gate_message.specs.declared.chain_event.ChainEvent.{ChainEvent}
use Rattle.gate_message.specs.declared.chain_event.ChainEvent.TheVariants.{MoveTip, LearnCoin, LearnVerdict, Forget}
use Rattle.gate_message.specs.declared.reply.Reply.{Reply}
use Rattle.gate_message.specs.declared.reply.Reply.TheVariants.{Set, Moved, Forgotten, Refused}
use Rattle.gate_core.specs.World.{World, standing_of}

-- ---- blocks in the place of others

-- if a rule fails the reply names it, and nothing changes
abbrev pub chained_as : World → Happened → Option ChainDenial → Reply × World
chained_as w after (Some denial) = (Refused denial, w)
chained_as w after None = (Moved after.moved, record w { chain = after.chain; pool = after.entries; floor = after.floor })

-- this many blocks are disconnected and these connected in their place, at this second
abbrev pub chained : World → ℕ → ℕ → List (Option Block) → Reply × World
chained w disconnect now blocks = chained_as w (event_of (standing_of w) disconnect (present blocks) now w.budget) (first_failing (event_rules w.chain disconnect blocks))

-- ---- a coin or a verdict that is learnt

-- what is asked of a coin: what the chain asks, and that no entry has the id of the coin's transaction
unfoldable pub coin_rules : World → OpeningCoin → List (Rule ChainDenial)
coin_rules w coin = learn_rules w.chain coin ++ (CoinKnown, is_some (entry_by_txid w.pool coin.outpoint.txid)) ∷ []

-- if a rule fails the reply names it, and nothing changes
abbrev pub learnt_as : World → World → Option ChainDenial → Reply × World
learnt_as w after (Some denial) = (Refused denial, w)
learnt_as w after None = (Set, after)

-- the coin stands behind those of the opening
abbrev pub with_coin : World → OpeningCoin → World
with_coin w coin = record w { chain = learnt w.chain coin }

abbrev pub coin_step : World → OpeningCoin → Reply × World
coin_step w coin = learnt_as w (with_coin w coin) (first_failing (coin_rules w coin))

-- the row stands behind the others
abbrev pub with_verdict : World → VerdictRow → World
with_verdict w row = record w { verdicts = with_row w.verdicts row }

abbrev pub verdict_step : World → VerdictRow → Reply × World
verdict_step w row = learnt_as w (with_verdict w row) (first_failing (row_rules w.verdicts row))

-- ---- what is forgotten

-- an entry spends an outpoint
abbrev pub is_spent_by_some : List Admitted → OutPoint → Bool
is_spent_by_some pool p = is_some (spender_of pool p)

-- a state whose lowest `n` blocks became blocks of the opening: of coins and verdicts it keeps those that an entry, or a block
-- above them, needs
abbrev pub forgetting : World → ℕ → World
forgetting w n = record w {
  chain = forgotten w.chain n (is_spent_by_some w.pool);
  verdicts = record w.verdicts { rows = rows_over w.pool (drop n w.chain.blocks) w.verdicts.rows };
}

-- the reply says how many blocks they are, and how many unspent coins and how many rows are known no more
abbrev pub forgotten_as : World → ℕ → Option ChainDenial → Reply × World
forgotten_as w n (Some denial) = (Refused denial, w)
forgotten_as w n None =
    let after = forgetting w n in
    (Forgotten n (length (dropped_coins w.chain n (is_spent_by_some w.pool))) (length w.verdicts.rows - length after.verdicts.rows), after)

abbrev pub forget_step : World → ℕ → Reply × World
forget_step w n = forgotten_as w n (forget_denial w.chain n)

-- ---- the step

abbrev pub chain_step : World → ChainEvent → Reply × World
chain_step w (MoveTip disconnect now blocks) = chained w disconnect now blocks
chain_step w (LearnCoin coin) = coin_step w coin
chain_step w (LearnVerdict row) = verdict_step w row
chain_step w (Forget blocks) = forget_step w blocks
