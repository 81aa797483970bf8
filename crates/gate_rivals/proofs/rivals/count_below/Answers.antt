use Rattle.std.proofs.Common.{ap, ◌∙◌}
use Rattle.gate_graph.specs.declared.held.Totals.{Totals}
use Rattle.gate_rbf.proofs.Counted.{entry_found}
use Rattle.gate_rivals.proofs.rivals.count_below.Goals as goal

pub unwrap-requires : goal.unwrap-requires
unwrap-requires g c = c.totals.ensures.found ∙ entry_found c.args.pool.now.entries c.args.id.now c.requires

pub returns : goal.returns
returns g c = ap (λ (t : Totals). t.below.count) (rw c.unwrap.ensures at c.totals.ensures.totals)
