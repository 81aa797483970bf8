use Rattle.std.proofs.Common.{◌∙◌, subst, List, rules}
use Rattle.std.specs.Prelude.{Contains}
use Rattle.gate_tx.specs.Text.{IsTx}
use Rattle.gate_tx.specs.Tx.{Tx}
use Rattle.gate_message.proofs.call.Call.recall_spelled.Goals as goal

pub returns : goal.returns
returns c = subst (λ (txs : List Tx). (tx : Tx) → Contains txs tx → IsTx tx) (c.submissions_of.ensures ∙ search rules) c.recall_texts.ensures
