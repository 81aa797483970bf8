use Rattle.gate_reorg.proofs.Keeping.{blocks_come_back}
use Rattle.gate_reorg.proofs.law.blocks_come_back.Goals as goal

pub returns : goal.returns
returns c = blocks_come_back
