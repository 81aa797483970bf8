use Rattle.std.proofs.Common.{◌≡◌, ◌+◌, ◌*◌, ◌++◌}
use Rattle.gate_opening.specs.BlockTimes.{times_from}
use Rattle.gate_opening.proofs.times.append_times.Given as goal

abbrev pub invariant-loop : goal.invariant-loop
invariant-loop l = record {
  items : l.times.items ≡ l.initial.times.items ++ times_from l.counter l.first l.step;
  time : l.time ≡ l.first + l.counter * l.step;
}
