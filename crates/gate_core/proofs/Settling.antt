-- A plan, its change, and the reply that is settled after it; and an event of the chain, which is followed.
use Rattle.std.proofs.Common.{◌≡◌, Option, ap, refl, sym, ◌∙◌}
use Rattle.gate_rules.specs.declared.Denial.{Denial}
use Rattle.gate_message.specs.declared.chain_event.ChainEvent.{ChainEvent}
use Rattle.gate_message.specs.declared.event.Event.{Event}
use Rattle.gate_message.specs.declared.event.Event.TheVariants.{Chain as OfChain}
use Rattle.gate_core.specs.declared.planning.Change.{Change}
use Rattle.gate_message.specs.declared.reply.Reply.{Reply}
use Rattle.gate_message.specs.Replies.{settled}
use Rattle.gate_core.specs.ChainSteps.{chain_step}
use Rattle.gate_core.specs.Planning.{made_by}
use Rattle.gate_core.specs.Steps.{step_of}
use Rattle.gate_core.specs.World.{World}

pub settled_step : (reply told : Reply) (change : Change) (denial : Option Denial) (w shown mid next : World) (event : Event)
    → told ≡ settled reply denial → ((r : Reply) → (settled r denial, next) ≡ made_by r change mid) → mid ≡ w → made_by reply change w ≡ step_of w event → w ≡ shown
    → (told, next) ≡ step_of shown event
settled_step reply told change denial w shown mid next event is law same planned seen =
    ap (λ (r : Reply). (r, next)) is ∙ (law reply ∙ (ap (made_by reply change) same ∙ (planned ∙ ap (λ v. step_of v event) seen)))

chain_step_is : (w : World) (asked : ChainEvent) → chain_step w asked ≡ step_of w (OfChain asked)
unfolding step_of
chain_step_is w asked = refl

pub followed_step : (reply told : Reply) (w shown mid next : World) (event : Event) (asked : ChainEvent)
    → told ≡ reply → (reply, next) ≡ chain_step mid asked → mid ≡ w → event ≡ OfChain asked → w ≡ shown → (told, next) ≡ step_of shown event
followed_step reply told w shown mid next event asked is followed same asks seen =
    ap (λ (r : Reply). (r, next)) is
    ∙ (followed ∙ (ap (λ v. chain_step v asked) (same ∙ seen) ∙ (chain_step_is shown asked ∙ ap (step_of shown) (sym asks))))
