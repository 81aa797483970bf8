use Rattle.gate_reorg.proofs.Origins.{blocks_only_take}
use Rattle.gate_reorg.proofs.law.blocks_only_take.Goals as goal

pub returns : goal.returns
returns c = blocks_only_take
