use Rattle.gate_reorg.proofs.Origins.{blocks_keep_truc}
use Rattle.gate_reorg.proofs.law.blocks_keep_truc.Goals as goal

pub returns : goal.returns
returns c = blocks_keep_truc
