use Rattle.gate_graph.specs.Walking.{AreClear}
use Rattle.gate_graph.proofs.copy.clear_marks.Given as goal

abbrev pub invariant-loop-slot : goal.invariant-loop-slot
invariant-loop-slot l = AreClear l._slot l.marks.items
