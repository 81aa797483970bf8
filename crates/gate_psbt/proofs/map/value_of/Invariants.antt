use Rattle.std.proofs.Common.{◌≡◌, drop}
use Rattle.gate_psbt.specs.Maps.{value_of}
use Rattle.gate_psbt.proofs.map.value_of.Given as goal

abbrev pub invariant-loop-pair : goal.invariant-loop-pair
invariant-loop-pair l = value_of l.kind (drop l.pair-index l.pairs) ≡ value_of l.kind l.pairs
