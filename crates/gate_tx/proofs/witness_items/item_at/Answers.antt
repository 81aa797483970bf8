use Rattle.std.proofs.Common.{List, ℕ, Bor, ap, ◌∙◌}
use Rattle.std.specs.List.{slice_get}
use Rattle.gate_tx.proofs.Items.{nth_is}
use Rattle.gate_tx.proofs.witness_items.item_at.Goals as goal

pub returns : goal.returns
returns c = nth_is (λ (item : Bor (List ℕ)). item.now) c.of.result c.args.place c.nth.result c.nth.new.self c.nth.ensures.ran ∙ ap (λ (left : List (List ℕ)). slice_get left c.args.place) c.of.ensures
