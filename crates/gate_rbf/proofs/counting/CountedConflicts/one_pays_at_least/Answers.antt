use Rattle.std.proofs.Common.{ap, ◌∙◌, rules, tests}
use Rattle.std.specs.Prelude.{nat_le}
use Rattle.std.specs.List.{list_any}
use Rattle.std.proofs.lemmas.Iterator.{YieldsList-from_slice}
use Rattle.std.proofs.lemmas.Iterator.Search.{any_from_yields_List}
use Rattle.gate_standard.specs.Amounts.{feerate}
use Rattle.gate_pool.specs.Pool.{Admitted}
use Rattle.gate_pool.specs.Counting.{counted_of}
use Rattle.gate_rbf.specs.Direct.{BesideSibling}
use Rattle.gate_rbf.proofs.Rivals.{any_of_these}
use Rattle.gate_rbf.proofs.counting.CountedConflicts.one_pays_at_least.Goals as goal

pub returns : goal.returns
returns g c =
    let direct = c.self.inside in
    let rate = c.rate_of-rate.result in
    any_from_yields_List (λ (e : Admitted). nat_le rate (feerate e.fee e.vsize)) _ _ c.any.result c.any.ensures.ran (YieldsList-from_slice direct.found.items cc) (λ x b q k. search (rules, tests))
    ∙ any_of_these (λ (e : Admitted). nat_le rate (feerate e.fee e.vsize)) direct.found.items (counted_of direct.pool.now.entries direct.sibling direct.tx.now) c.self.invariant
    ∙ ap (λ r. list_any (λ (e : Admitted). nat_le r (feerate e.fee e.vsize)) (counted_of direct.pool.now.entries direct.sibling direct.tx.now)) c.rate_of-rate.ensures
    ∙ ap (λ (b : BesideSibling). list_any (λ (e : Admitted). nat_le (feerate c.args.fee c.args.vsize) (feerate e.fee e.vsize)) (counted_of b.entries b.sibling b.tx)) c.self.view_is
