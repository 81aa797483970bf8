use Rattle.std.proofs.Common.{subst, List}
use Rattle.gate_pool.specs.Family.{AreIdsOf, is_below_some}
use Rattle.gate_pool.specs.Pool.{Admitted}
use Rattle.gate_rivals.specs.Rivals.{is_rival}
use Rattle.gate_rivals.proofs.Rivalry.{below_ids}
use Rattle.gate_rivals.proofs.rivals.list_replaced.Goals as goal

pub returns : goal.returns
returns g c = λ txs are.
    let entries = c.args.pool.now.entries in
    c.in_order.ensures (is_below_some (is_rival txs) entries)
    (subst (λ (l : List Admitted). AreIdsOf c.in_ok-found.found.items l) (below_ids entries (is_rival txs) c.args.rivals.now c.recall_distinct.ensures are) c.in_ok-found.ensures)
