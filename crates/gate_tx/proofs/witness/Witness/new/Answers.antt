use Rattle.gate_tx.proofs.Items.{nothing_kept, none_at}
use Rattle.gate_tx.proofs.witness.Witness.new.Goals as goal

pub invariant_of-result : goal.invariant_of-result
invariant_of-result c = rw c.new.ensures.items nothing_kept

pub returns : goal.returns
returns c = none_at c.new.result.items
