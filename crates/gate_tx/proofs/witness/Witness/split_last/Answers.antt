use Rattle.gate_tx.specs.Items.{items_at}
use Rattle.gate_tx.proofs.Items.{kept_has}
use Rattle.gate_tx.proofs.witness.Witness.split_last.Goals as goal

pub split_last_at-requires : goal.split_last_at-requires
split_last_at-requires c =
    let s = c.self.inside in
    rw c.deref.ensures.value (kept_has (items_at s.count s.texts.items) s.count s.texts.items c.self.invariant)
