use Rattle.std.proofs.Common.{not, ap, ◌∙◌, rules, tests}
use Rattle.std.specs.List.{list_any}
use Rattle.std.proofs.lemmas.Iterator.{YieldsList-from_slice}
use Rattle.std.proofs.lemmas.Iterator.Search.{any_from_yields_List}
use Rattle.gate_pool.specs.Pool.{Admitted}
use Rattle.gate_pool.specs.Family.{is_conflict, conflicts_of}
use Rattle.gate_rbf.specs.Direct.{Beside}
use Rattle.gate_rbf.specs.Replacing.{is_replaceable, is_non_signalling_conflict}
use Rattle.gate_rbf.proofs.Choosing.{any_filter}
use Rattle.gate_rbf.proofs.Rivals.{any_of_these}
use Rattle.gate_rbf.proofs.direct.DirectConflicts.has_non_signalling.Goals as goal

pub returns : goal.returns
returns g c =
    let direct = c.self.inside in
    let entries = direct.pool.now.entries in
    let tx = direct.tx.now in
    any_from_yields_List (λ (e : Admitted). not (is_replaceable c.args.truc e.tx)) _ _ c.any.result c.any.ensures.ran (YieldsList-from_slice direct.found.items cc) (λ x b q k. search (rules, tests))
    ∙ any_of_these (λ (e : Admitted). not (is_replaceable c.args.truc e.tx)) direct.found.items (conflicts_of entries tx) c.self.invariant
    ∙ any_filter (λ (e : Admitted). not (is_replaceable c.args.truc e.tx)) (is_conflict tx) entries
    ∙ ap (λ (b : Beside). list_any (is_non_signalling_conflict c.args.truc b.tx) b.entries) c.self.view_is
