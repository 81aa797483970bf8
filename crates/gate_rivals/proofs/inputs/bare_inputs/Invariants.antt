use Rattle.std.proofs.Common.{◌≡◌, take, map}
use Rattle.std.specs.List.{flat_map}
use Rattle.gate_rivals.specs.Rivals.{inputs_of, point_of}
use Rattle.gate_rivals.proofs.inputs.bare_inputs.Given as goal

abbrev pub invariant-loop-tx : goal.invariant-loop-tx
invariant-loop-tx l = map point_of l.bares.items ≡ map point_of (flat_map inputs_of (take l.tx-index l.these))
