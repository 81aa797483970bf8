use Rattle.gate_tx.proofs.Laws.{texts_are_read_back, decoded_is_spelled}
use Rattle.gate_tx.proofs.law.texts_are_read_back.Goals as goal

pub returns-clause-back : goal.returns-clause-back
returns-clause-back c = texts_are_read_back

pub returns-clause-spelled : goal.returns-clause-spelled
returns-clause-spelled c = decoded_is_spelled
