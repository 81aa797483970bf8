use Rattle.std.proofs.Common.{rules, tests}
use Rattle.std.proofs.lemmas.Iterator.{YieldsList-from_slice}
use Rattle.std.proofs.lemmas.Iterator.Search.{any_from_yields_List}
use Rattle.gate_rbf.specs.Gathering.{is_new}
use Rattle.gate_rbf.proofs.parents.has_new.Goals as goal

pub returns : goal.returns
returns g c =
    any_from_yields_List (is_new c.args.pool.now.entries c.args.conflicts.now) _ _ c.any.result c.any.ensures.ran (YieldsList-from_slice c.args.parents.now cc) (λ x b q k. search (rules, tests))
