use Rattle.gate_reorg.proofs.Origins.{events_bring_nothing_else}
use Rattle.gate_reorg.proofs.law.events_bring_nothing_else.Goals as goal

pub returns : goal.returns
returns c = events_bring_nothing_else
