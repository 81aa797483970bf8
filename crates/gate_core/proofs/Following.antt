-- What an event of the chain gives: it is refused and changes nothing, or changes what its kind changes.
use Rattle.std.proofs.Common.{◌≡◌, ℕ, List, Option, Some, None, refl}
use Rattle.gate_bytes.specs.Order.{first_failing}
use Rattle.gate_chain.specs.Blocks.{Block}
use Rattle.gate_chain.specs.Forgetting.{forget_denial}
use Rattle.gate_rules.specs.declared.ChainDenial.{ChainDenial}
use Rattle.gate_chain.specs.declared.OpeningCoin.{OpeningCoin}
use Rattle.gate_admit.specs.Verdicts.{row_rules}
use Rattle.gate_reorg.specs.Events.{event_rules, event_of}
use Rattle.gate_submission.specs.Blocks.{present}
use Rattle.gate_submission.specs.declared.VerdictRow.{VerdictRow}
use Rattle.gate_message.specs.declared.chain_event.ChainEvent.{ChainEvent}
use Rattle.gate_message.specs.declared.chain_event.ChainEvent.TheVariants.{MoveTip, LearnCoin, LearnVerdict, Forget}
use Rattle.gate_message.specs.declared.reply.Reply.{Reply}
use Rattle.gate_message.specs.declared.reply.Reply.TheVariants.{Refused}
use Rattle.gate_core.specs.ChainSteps.{chain_step, chained_as, coin_rules, forgotten_as, learnt_as, with_coin, with_verdict}
use Rattle.gate_core.specs.World.{World, standing_of}

module _ (P : Reply × World → Type 0) (w : World) where
  unless_denied : (given : Option ChainDenial → Reply × World) (denial : Option ChainDenial) → ((d : ChainDenial) → P (given (Some d))) → (denial ≡ None → P (given None)) → P (given denial)
  unless_denied given (Some d) refused done = refused d
  unless_denied given None refused done = done refl

  pub chain_gives : (event : ChainEvent) → ((denial : ChainDenial) → P (Refused denial, w))
      → ((disconnect now : ℕ) (blocks : List (Option Block)) → event ≡ MoveTip disconnect now blocks → first_failing (event_rules w.chain disconnect blocks) ≡ None
      → P (chained_as w (event_of (standing_of w) disconnect (present blocks) now w.budget) None))
      → ((coin : OpeningCoin) → first_failing (coin_rules w coin) ≡ None → P (learnt_as w (with_coin w coin) None))
      → ((row : VerdictRow) → P (learnt_as w (with_verdict w row) None))
      → ((blocks : ℕ) → P (forgotten_as w blocks None))
      → P (chain_step w event)
  chain_gives (MoveTip disconnect now blocks) same moves learns judges forgets =
      unless_denied (chained_as w (event_of (standing_of w) disconnect (present blocks) now w.budget)) (first_failing (event_rules w.chain disconnect blocks)) same (moves disconnect now blocks refl)
  chain_gives (LearnCoin coin) same moves learns judges forgets = unless_denied (learnt_as w (with_coin w coin)) (first_failing (coin_rules w coin)) same (learns coin)
  chain_gives (LearnVerdict row) same moves learns judges forgets = unless_denied (learnt_as w (with_verdict w row)) (first_failing (row_rules w.verdicts row)) same (λ passes. judges row)
  chain_gives (Forget blocks) same moves learns judges forgets = unless_denied (forgotten_as w blocks) (forget_denial w.chain blocks) same (λ passes. forgets blocks)
