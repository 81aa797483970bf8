use Rattle.std.proofs.Common.{◌≡◌, take}
use Rattle.gate_graph.specs.Holding.{nodes_of, seen_of}
use Rattle.gate_graph.specs.Linking.{IsLinked}
use Rattle.gate_graph.specs.Slots.{entries_of}
use Rattle.gate_graph.proofs.copy.copy_each.Given as goal

abbrev pub invariant-loop-slot : goal.invariant-loop-slot
invariant-loop-slot g l = record {
  copied : seen_of l.slots.held ≡ seen_of (entries_of (take l.slot-index l.from));
  linked : IsLinked (nodes_of l.slots.held) l.links;
}
