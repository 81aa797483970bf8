use Rattle.std.proofs.Common.{◌&&◌, List, length, sym, ap}
use Rattle.std.specs.Prelude.{◌==◌}
use Rattle.gate_graph.specs.declared.held.Totals.{Totals}
use Rattle.gate_pool.specs.Pool.{Admitted}
use Rattle.gate_pool.specs.Family.{descendants_of}
use Rattle.gate_admit.proofs.Parents.{none_above}
use Rattle.gate_admit.proofs.truc.is_only_child.Goals as goal

pub returns-in-Some : goal.returns-in-Some
returns-in-Some g c = ap (λ (t : Totals). t.above.count == 2 && t.below.count == 1) c.in-Some.ensures.totals

pub returns-in-None : goal.returns-in-None
returns-in-None g c =
    let entries = c.args.pool.now.entries in
    ap (λ (l : List Admitted). length l == 2 && length (descendants_of entries c.args.txid.now) == 1) (sym (none_above entries c.args.txid.now (sym c.in-None.ensures.found)))
