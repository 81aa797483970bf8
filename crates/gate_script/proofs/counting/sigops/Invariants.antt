use Rattle.std.proofs.Common.{◌≡◌, ◌+◌, ◌-◌, ◌^◌, ◌<◌, min}
use Rattle.gate_script.specs.Sigops.{sigops_after, sigops_of}
use Rattle.gate_script.proofs.counting.sigops.Given as goal

abbrev pub invariant-loop-op : goal.invariant-loop-op
invariant-loop-op l =
    (goal.iterator-loop-op).can_next l.op-iterator × (goal.iterator-loop-op).is_finite l.op-iterator × (l.count < 2 ^ 64) × (min (l.count + sigops_after l.accurate l.last_opcode l.op-iterator) (2 ^ 64 - 1) ≡ min (sigops_of l.accurate l.script) (2 ^ 64 - 1))
