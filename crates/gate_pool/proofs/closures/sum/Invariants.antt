use Rattle.std.proofs.Common.{◌≡◌, ◌≤◌, ◌*◌, take}
use Rattle.std.specs.Prelude.{sum_by}
use Rattle.gate_tx.specs.Money.{max_money}
use Rattle.gate_pool.specs.Pool.{Admitted, largest_vsize}
use Rattle.gate_pool.proofs.closures.sum.Given as goal

abbrev pub invariant-loop-entry : goal.invariant-loop-entry
invariant-loop-entry l =
    (l.sums.count ≡ l.entry-index)
    × (l.sums.size ≡ sum_by (λ (e : Admitted). e.vsize) (take l.entry-index l.lent))
    × (l.sums.fees ≡ sum_by (λ (e : Admitted). e.fee) (take l.entry-index l.lent))
    × (l.sums.size ≤ l.entry-index * largest_vsize)
    × (l.sums.fees ≤ l.entry-index * max_money)
