use Rattle.gate_tx.proofs.witness_items.WitnessItems.split_last.Goals as goal

pub split_last_at-requires : goal.split_last_at-requires
split_last_at-requires c = rw c.take_rest.ensures c.self.invariant
