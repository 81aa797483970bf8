use Rattle.gate_tx.proofs.Bounds.{is_weight}
use Rattle.gate_tx.proofs.transaction.Transaction.weight.Goals as goal

pub returns : goal.returns
returns c =
    let size = rw (c.inputs.ensures, c.outputs.ensures) at c.stripped_lists-stripped.ensures.size in
    let more = rw c.inputs-2.ensures at c.witness_lists.ensures in
    is_weight c.args.self.now c.stripped_lists-stripped.result c.witness_lists.result c.recall_invariant.ensures.size size more
