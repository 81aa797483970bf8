use Rattle.gate_tx.proofs.Bounds.{is_stripped_size}
use Rattle.gate_tx.proofs.transaction.Transaction.stripped_size.Goals as goal

pub returns : goal.returns
returns c =
    let size = rw (c.inputs.ensures, c.outputs.ensures) at c.stripped_lists.ensures.size in
    is_stripped_size c.args.self.now c.stripped_lists.result c.recall_invariant.ensures.size size
