use Rattle.std.proofs.Common.{ℕ, ◌==◌, not, ap, ◌∙◌}
use Rattle.std.specs.List.{list_any}
use Rattle.gate_pool.specs.Counting.{is_counted}
use Rattle.gate_rbf.specs.Direct.{BesideSibling}
use Rattle.gate_rbf.proofs.Rivals.{some_found}
use Rattle.gate_rbf.proofs.counting.CountedConflicts.has_any.Goals as goal

pub returns : goal.returns
returns g c =
    let direct = c.self.inside in
    ap not c.is_empty.ensures ∙ ap (λ (n : ℕ). not (n == 0)) direct.found.ok.0
    ∙ some_found (is_counted direct.sibling direct.tx.now) direct.pool.now.entries direct.found.items c.self.invariant
    ∙ ap (λ (b : BesideSibling). list_any (is_counted b.sibling b.tx) b.entries) c.self.view_is
