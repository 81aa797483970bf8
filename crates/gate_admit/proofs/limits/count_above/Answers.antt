use Rattle.std.proofs.Common.{sym, ap, length, List}
use Rattle.gate_graph.specs.declared.held.Totals.{Totals}
use Rattle.gate_pool.specs.Pool.{Admitted}
use Rattle.gate_admit.proofs.Parents.{none_above}
use Rattle.gate_admit.proofs.limits.count_above.Goals as goal

pub returns-in-Some : goal.returns-in-Some
returns-in-Some g c = ap (λ (t : Totals). t.above.count) c.in-Some.ensures.totals

pub returns-in-None : goal.returns-in-None
returns-in-None g c = ap (λ (l : List Admitted). length l) (sym (none_above c.args.pool.now.entries c.args.txid.now (sym c.in-None.ensures.found)))
