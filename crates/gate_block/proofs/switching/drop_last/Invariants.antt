use Rattle.std.proofs.Common.{◌≡◌}
use Rattle.gate_block.specs.Switching.{without_last}
use Rattle.gate_block.proofs.switching.drop_last.Given as goal

abbrev pub invariant-loop : goal.invariant-loop
invariant-loop g l = l.chain ≡ without_last l.fn.chain l.counter
