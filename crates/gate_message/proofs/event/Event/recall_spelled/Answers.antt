use Rattle.std.proofs.Common.{sym, subst}
use Rattle.std.specs.Prelude.{Contains}
use Rattle.gate_tx.specs.Text.{IsTx}
use Rattle.gate_tx.specs.Tx.{Tx}
use Rattle.gate_rpc.specs.Calls.{request_of}
use Rattle.gate_message.specs.Spelled.{IsSpelled, offered}
use Rattle.gate_message.specs.UserCalls.{UserCall}
use Rattle.gate_message.specs.declared.event.Event.{Event}
use Rattle.gate_message.proofs.BothSpelled.{both_spelled}
use Rattle.gate_message.proofs.event.Event.recall_spelled.Goals as goal

pub returns-in-Rpc : goal.returns-in-Rpc
returns-in-Rpc c =
    subst (λ (event : Event). IsSpelled event) (sym c.in-Rpc.is)
    (subst (λ (call : UserCall). (tx : Tx) → Contains (offered (request_of call.json)) tx → IsTx tx) c.get.ensures c.recall_spelled-in-Rpc.ensures)

pub returns-in-Package : goal.returns-in-Package
returns-in-Package c =
    subst (λ (event : Event). IsSpelled event) (sym c.in-Package.is)
    (both_spelled c.in-Package.parent c.in-Package.child c.recall_spelled-in-Package.ensures c.recall_spelled-in-Package-2.ensures)
