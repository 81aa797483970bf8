use Rattle.gate_tx.proofs.Bounds.{is_full_size}
use Rattle.gate_tx.proofs.transaction.Transaction.full_size.Goals as goal

pub returns : goal.returns
returns c =
    let size = rw (c.inputs.ensures, c.outputs.ensures) at c.stripped_lists.ensures.size in
    let more = rw c.inputs-2.ensures at c.witness_lists.ensures in
    is_full_size c.args.self.now c.stripped_lists.result c.witness_lists.result c.recall_invariant.ensures.size size more
