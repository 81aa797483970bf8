use Rattle.std.proofs.Common.{List, ℕ, length, sym, ap, ◌∙◌}
use Rattle.gate_tx.proofs.Items.{has_count}
use Rattle.gate_tx.proofs.witness_items.WitnessItems.len.Goals as goal

pub returns : goal.returns
returns c = sym (has_count c.self.inside.left c.self.inside.ahead c.self.invariant) ∙ ap (λ (items : List (List ℕ)). length items) c.self.view_is
