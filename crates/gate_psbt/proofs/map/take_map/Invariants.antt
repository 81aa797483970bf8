use Rattle.std.proofs.Common.{◌≡◌, ◌-◌}
use Rattle.gate_psbt.specs.Maps.{map_at, pairs_at}
use Rattle.gate_psbt.proofs.map.take_map.Given as goal

abbrev pub invariant-loop : goal.invariant-loop
invariant-loop l = pairs_at l.owner (l.most - l.counter) l.pairs.items l.cursor ≡ map_at l.owner l.initial.cursor
