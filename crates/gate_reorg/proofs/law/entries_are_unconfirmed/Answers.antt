use Rattle.gate_reorg.proofs.Keeping.{entries_are_unconfirmed}
use Rattle.gate_reorg.proofs.law.entries_are_unconfirmed.Goals as goal

pub returns : goal.returns
returns c = entries_are_unconfirmed
