use Rattle.std.proofs.Common.{ap, ◌∙◌, rules, tests}
use Rattle.std.specs.List.{list_any}
use Rattle.std.proofs.lemmas.Iterator.{YieldsList-from_slice}
use Rattle.std.proofs.lemmas.Iterator.Search.{any_from_yields_List}
use Rattle.gate_pool.specs.Pool.{Admitted}
use Rattle.gate_pool.specs.Family.{names, conflicts_of}
use Rattle.gate_rbf.specs.Direct.{Beside}
use Rattle.gate_rbf.proofs.Rivals.{any_of_these}
use Rattle.gate_rbf.proofs.direct.DirectConflicts.has_child_of.Goals as goal

pub returns : goal.returns
returns g c =
    let direct = c.self.inside in
    let txid = c.args.txid.now in
    any_from_yields_List (λ (e : Admitted). names e txid) _ _ c.any.result c.any.ensures.ran (YieldsList-from_slice direct.found.items cc) (λ x b q k. search (rules, tests))
    ∙ any_of_these (λ (e : Admitted). names e txid) direct.found.items (conflicts_of direct.pool.now.entries direct.tx.now) c.self.invariant
    ∙ ap (λ (b : Beside). list_any (λ (e : Admitted). names e txid) (conflicts_of b.entries b.tx)) c.self.view_is
