use Rattle.std.proofs.Common.{◌≡◌, take}
use Rattle.gate_diagram.specs.Diagram.{surplus}
use Rattle.gate_diagram.proofs.diagram.surplus.Given as goal

abbrev pub invariant-loop-chunk : goal.invariant-loop-chunk
invariant-loop-chunk l = l.sum ≡ surplus l.rate (take l.chunk-index l.chunks)
