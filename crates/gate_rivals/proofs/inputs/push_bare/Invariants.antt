use Rattle.std.proofs.Common.{◌≡◌, ◌++◌, take, map}
use Rattle.gate_rivals.specs.Rivals.{point_of}
use Rattle.gate_rivals.proofs.inputs.push_bare.Given as goal

abbrev pub invariant-loop-input : goal.invariant-loop-input
invariant-loop-input l = map point_of l.bares.items ≡ map point_of l.fn.bares.items ++ map point_of (take l.input-index l.inputs)
