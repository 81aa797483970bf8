use Rattle.gate_reorg.proofs.Keeping.{events_keep_pools_good}
use Rattle.gate_reorg.proofs.law.events_keep_pools_good.Goals as goal

pub returns : goal.returns
returns c = events_keep_pools_good
