use Rattle.std.proofs.Common.{◌∙◌, ◌&&◌, ℕ, List, rules, tests}
use Rattle.std.specs.List.{list_any}
use Rattle.std.proofs.lemmas.Iterator.{YieldsList-from_slice}
use Rattle.std.proofs.lemmas.Iterator.Search.{any_from_yields_List}
use Rattle.gate_pool.specs.Pool.{Admitted, has_txid}
use Rattle.gate_pool.specs.Family.{names}
use Rattle.gate_rbf.proofs.Adopting.{any_child}
use Rattle.gate_rbf.proofs.parents.has_child_among.Goals as goal

pub returns : goal.returns
returns g c =
    let entries = c.args.pool.now.entries in
    any_from_yields_List (λ (id : List ℕ). list_any (λ (e : Admitted). names e c.args.parent.now && has_txid e id) entries) _ _ c.any.result c.any.ensures.ran (YieldsList-from_slice c.args.conflicts.now cc) (λ x b q k. search (rules, tests))
    ∙ any_child entries c.args.parent.now c.args.conflicts.now
