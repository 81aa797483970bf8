use Rattle.std.proofs.Common.{◌≡◌, ◌+◌, length, take}
use Rattle.std.specs.Prelude.{sum_by}
use Rattle.gate_graph.specs.declared.held.Gone.{Gone}
use Rattle.gate_pool.specs.Pool.{Admitted}
use Rattle.gate_pool.proofs.rewinding.inputs_gone.Given as goal

abbrev pub invariant-loop-gone : goal.invariant-loop-gone
invariant-loop-gone l = l.sum ≡ sum_by (λ (x : Gone Admitted). length x.load.tx.inputs) (take l.gone-index l.log) + l.more
