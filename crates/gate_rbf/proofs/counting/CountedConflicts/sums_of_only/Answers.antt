use Rattle.std.proofs.Common.{List, sym, ap, ◌∙◌}
use Rattle.gate_graph.specs.declared.held.Totals.{Totals}
use Rattle.gate_pool.specs.Pool.{Admitted}
use Rattle.gate_pool.specs.Family.{descendants_of, sums_of, totals_of}
use Rattle.gate_pool.specs.Counting.{is_counted}
use Rattle.gate_rbf.proofs.Alone.{below_alone}
use Rattle.gate_rbf.proofs.counting.CountedConflicts.sums_of_only.Goals as goal

pub returns-in-Some : goal.returns-in-Some
returns-in-Some g c =
    let entries = c.args.self.now.entries in
    let w = c.in_ok-only.ensures.one in
    ap (λ (t : Totals). t.below) c.in-Some.ensures.totals
    ∙ ap (λ (l : List Admitted). (totals_of l c.in_ok-only.only).below) c.pool.ensures
    ∙ ap (λ id. sums_of (descendants_of entries id)) (sym w.2)
    ∙ ap sums_of (sym (below_alone (is_counted c.args.self.now.sibling c.args.self.now.tx) entries w.0 w.1))
