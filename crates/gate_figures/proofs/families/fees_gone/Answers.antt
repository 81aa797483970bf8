use Rattle.std.proofs.Common.{ap, sym, subst, List, ℕ}
use Rattle.gate_graph.specs.declared.held.Sums.{Sums}
use Rattle.gate_pool.specs.Family.{is_below_some, all_below, AreIdsOf}
use Rattle.gate_pool.specs.Counting.{is_counted}
use Rattle.gate_figures.proofs.families.fees_gone.Goals as goal

pub returns : goal.returns
returns g c =
    let entries = c.args.pool.now.entries in
    let sibling = c.args.sibling in
    let tx = c.args.tx.now in
    ap (λ (s : Sums). s.fees) (c.add_up.ensures.sums (is_below_some (is_counted sibling tx) entries)
    (subst (λ (l : List (List ℕ)). AreIdsOf l (all_below (is_counted sibling tx) entries)) (sym c.as_slice.ensures.value) c.in_ok-gone.ensures))
