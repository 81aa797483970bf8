use Rattle.gate_tx.specs.Items.{items_at}
use Rattle.gate_tx.proofs.Items.{kept_has}
use Rattle.gate_tx.proofs.witness.Witness.item.Goals as goal

pub item_at-requires : goal.item_at-requires
item_at-requires c =
    let s = c.self.inside in
    rw c.deref.ensures.value (kept_has (items_at s.count s.texts.items) s.count s.texts.items c.self.invariant)
