use Rattle.std.proofs.Common.{◌≡◌, ◌∙◌, subst, rules, tests}
use Rattle.std.specs.Prelude.{filter}
use Rattle.std.specs.List.{list_any}
use Rattle.std.proofs.lemmas.Iterator.{YieldsList-from_slice}
use Rattle.std.proofs.lemmas.Iterator.Search.{any_from_yields_List}
use Rattle.gate_pool.specs.Pool.{Admitted}
use Rattle.gate_pool.specs.Family.{is_among, is_conflict, conflicts_of, AreIdsOf}
use Rattle.gate_rbf.specs.Direct.{Beside}
use Rattle.gate_rbf.proofs.Choosing.{any_filter, any_among_last}
use Rattle.gate_rbf.proofs.Rivals.{any_of_these}
use Rattle.gate_rbf.proofs.direct.DirectConflicts.has_one_of.Goals as goal

pub returns : goal.returns
returns g c = λ test.
    let direct = c.self.inside in
    let entries = direct.pool.now.entries in
    let tx = direct.tx.now in
    let ids = c.args.ids.now in
    subst (λ (b : Beside). AreIdsOf ids (filter test b.entries) → c.any.result ≡ list_any (is_conflict b.tx) (filter test b.entries)) c.self.view_is (λ are.
    any_from_yields_List (λ (e : Admitted). is_among ids e) _ _ c.any.result c.any.ensures.ran (YieldsList-from_slice direct.found.items cc) (λ x b q k. search (rules, tests))
    ∙ any_of_these (is_among ids) direct.found.items (conflicts_of entries tx) c.self.invariant
    ∙ any_filter (is_among ids) (is_conflict tx) entries
    ∙ any_among_last (is_conflict tx) entries test ids c.recall_distinct.ensures are)
