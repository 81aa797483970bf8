use Rattle.std.proofs.Common.{◌≡◌, take}
use Rattle.gate_graph.specs.Linking.{AreWithout}
use Rattle.gate_graph.proofs.take.unlink.Given as goal

abbrev pub invariant-loop-parent : goal.invariant-loop-parent
invariant-loop-parent g l = record {
  all : AreWithout (take l.parent-index l.parents) l.child l.initial.links l.links;
  room : l.links.room ≡ l.initial.links.room;
}
