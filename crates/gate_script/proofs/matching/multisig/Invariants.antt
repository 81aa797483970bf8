use Rattle.std.proofs.Common.{◌≡◌, ◌≤◌}
use Rattle.gate_script.specs.Instructions.{instructions}
use Rattle.gate_script.specs.Templates.{multisig_of}
use Rattle.gate_script.proofs.Keys.{finish}
use Rattle.gate_script.proofs.matching.multisig.Given as goal

abbrev pub invariant-loop-op : goal.invariant-loop-op
invariant-loop-op l =
    (goal.iterator-loop-op).can_next l.left × (goal.iterator-loop-op).is_finite l.left × (l.keys ≤ 16) × (finish l.required l.keys l.left ≡ multisig_of (instructions l.script))
