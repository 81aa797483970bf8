use Rattle.std.proofs.Common.{◌≡◌, ◌≤◌, vec_len}
use Rattle.gate_script.specs.Instructions.{instructions}
use Rattle.gate_script.specs.Pushes.{items_of}
use Rattle.gate_script.proofs.StackItems.{gathering}
use Rattle.gate_script.proofs.pushes.push_stack.Given as goal

abbrev pub invariant-loop-op : goal.invariant-loop-op
invariant-loop-op l =
    (goal.iterator-loop-op).can_next l.op-iterator × (goal.iterator-loop-op).is_finite l.op-iterator × (vec_len l.items ≤ 1000) × (gathering l.items.items l.op-iterator ≡ items_of (instructions l.script))
