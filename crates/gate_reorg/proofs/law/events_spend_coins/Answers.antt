use Rattle.gate_reorg.proofs.Spent.{events_spend_coins}
use Rattle.gate_reorg.proofs.law.events_spend_coins.Goals as goal

pub returns : goal.returns
returns c = events_spend_coins
