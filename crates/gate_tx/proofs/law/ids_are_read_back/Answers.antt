use Rattle.gate_tx.proofs.IdTexts.{ids_are_read_back}
use Rattle.gate_tx.proofs.law.ids_are_read_back.Goals as goal

pub returns : goal.returns
returns c = ids_are_read_back
