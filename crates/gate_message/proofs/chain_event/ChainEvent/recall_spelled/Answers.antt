use Rattle.std.proofs.Common.{List, Option, sym, subst, ◌∙◌}
use Rattle.std.specs.Prelude.{Contains}
use Rattle.gate_tx.specs.Text.{IsTx}
use Rattle.gate_tx.specs.Tx.{Tx}
use Rattle.gate_chain.specs.Blocks.{Block}
use Rattle.gate_submission.specs.Blocks.{present}
use Rattle.gate_submission.specs.Blocks.{transactions_of}
use Rattle.gate_message.specs.declared.chain_event.ChainEvent.{ChainEvent}
use Rattle.gate_message.specs.Spelled.{connected_by}
use Rattle.gate_message.proofs.chain_event.ChainEvent.recall_spelled.Goals as goal

pub returns-in-MoveTip : goal.returns-in-MoveTip
returns-in-MoveTip c =
    subst (λ (event : ChainEvent). (tx : Tx) → Contains (connected_by event) tx → IsTx tx) (sym c.in-MoveTip.is)
    (subst (λ (bs : List (Option Block)). (tx : Tx) → Contains (transactions_of (present bs)) tx → IsTx tx) (c.as_slice.ensures ∙ c.get.ensures) c.recall_spelled.ensures)
