use Rattle.std.proofs.Common.{◌≡◌, take}
use Rattle.std.specs.Prelude.{filter}
use Rattle.gate_graph.specs.Families.{among}
use Rattle.gate_graph.specs.Holding.{ids_at, nodes_of}
use Rattle.gate_graph.specs.Weighing.{sums_of}
use Rattle.gate_graph.proofs.weigh.weigh.Given as goal

-- the sums of the nodes so far
abbrev pub invariant-loop-place : goal.invariant-loop-place
invariant-loop-place g l = l.sums ≡ sums_of (filter (λ n. among (take l.place-index (ids_at l.slots.spots l.places)) n.id) (nodes_of l.slots.held))
