use Rattle.gate_reorg.proofs.Spending.{events_spend_once}
use Rattle.gate_reorg.proofs.law.events_spend_once.Goals as goal

pub returns : goal.returns
returns c = events_spend_once
