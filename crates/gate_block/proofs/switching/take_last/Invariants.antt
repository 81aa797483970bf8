use Rattle.std.proofs.Common.{◌≡◌, ◌≤◌, reverse, vec_len}
use Rattle.std.specs.Vec.{vec_capacity}
use Rattle.gate_block.specs.Switching.{without_last, last_blocks}
use Rattle.gate_block.proofs.switching.take_last.Given as goal

abbrev pub invariant-loop : goal.invariant-loop
invariant-loop g l =
    (l.chain ≡ without_last l.fn.chain l.counter)
    × (l.gone.items ≡ reverse (last_blocks l.fn.chain l.counter))
    × (vec_len l.gone ≤ l.counter)
    × (l.fn.count ≤ vec_capacity l.gone)
