use Rattle.std.proofs.Common.{◌≡◌, ◌≤◌, ◌*◌, take}
use Rattle.gate_tx.specs.Money.{max_money}
use Rattle.gate_pool.specs.Pool.{Admitted, largest_vsize}
use Rattle.gate_pool.proofs.Adding.{weigh}
use Rattle.gate_pool.proofs.closures.add_up.Given as goal

abbrev pub invariant-loop-id : goal.invariant-loop-id
invariant-loop-id g l =
    (l.sums.count ≡ weigh (λ (e : Admitted). 1) (g.V.FamilyView.entries l.pool) (take l.id-index l.ids))
    × (l.sums.size ≡ weigh (λ (e : Admitted). e.vsize) (g.V.FamilyView.entries l.pool) (take l.id-index l.ids))
    × (l.sums.fees ≡ weigh (λ (e : Admitted). e.fee) (g.V.FamilyView.entries l.pool) (take l.id-index l.ids))
    × (l.sums.count ≤ l.id-index)
    × (l.sums.size ≤ l.id-index * largest_vsize)
    × (l.sums.fees ≤ l.id-index * max_money)
