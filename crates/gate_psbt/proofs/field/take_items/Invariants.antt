use Rattle.std.proofs.Common.{[], ◌≡◌, ◌-◌}
use Rattle.gate_psbt.specs.Fields.{items_at}
use Rattle.gate_psbt.proofs.field.take_items.Given as goal

abbrev pub invariant-loop : goal.invariant-loop
invariant-loop l = items_at (l.count - l.counter) l.witness l.cursor ≡ items_at l.count [] l.initial.cursor
