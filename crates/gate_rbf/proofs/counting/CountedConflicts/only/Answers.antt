use Rattle.std.proofs.Common.{◌≡◌, ◌∷◌, [], ℕ, Bool, List, sym, subst}
use Rattle.std.specs.Prelude.{◌≢◌, None, IfSome, filter}
use Rattle.gate_tx.specs.Ids.{txid_of}
use Rattle.gate_pool.specs.Distinct.{AreDistinct}
use Rattle.gate_pool.specs.Pool.{Admitted}
use Rattle.gate_pool.specs.Counting.{is_counted, counted_of}
use Rattle.gate_rbf.specs.Direct.{AreThese, BesideSibling}
use Rattle.gate_rbf.proofs.Siblings.{on_some}
use Rattle.gate_rbf.proofs.counting.CountedConflicts.only.Goals as goal

pub returns-clause-one : goal.returns-clause-one
returns-clause-one g c =
    let direct = c.self.inside in
    let entries = direct.pool.now.entries in
    let test = is_counted direct.sibling direct.tx.now in
    let these : AreThese c.as_slice.result.now (filter test entries) = subst (λ (l : List Admitted). AreThese l (filter test entries)) (sym c.as_slice.ensures.value) c.self.invariant in
    subst (λ (b : BesideSibling). IfSome c.only_of.result (λ txid. (d : Admitted) × (counted_of b.entries b.sibling b.tx ≡ d ∷ []) × (txid_of d.tx ≡ txid))) c.self.view_is
    (on_some _ _ c.only_of.result (λ txid told. told entries c.recall_distinct.ensures test these) c.only_of.ensures.one)

pub returns-clause-other : goal.returns-clause-other
returns-clause-other g c = λ none.
    let direct = c.self.inside in
    let entries = direct.pool.now.entries in
    let test = is_counted direct.sibling direct.tx.now in
    let these : AreThese c.as_slice.result.now (filter test entries) = subst (λ (l : List Admitted). AreThese l (filter test entries)) (sym c.as_slice.ensures.value) c.self.invariant in
    subst (λ (b : BesideSibling). (d : Admitted) → counted_of b.entries b.sibling b.tx ≢ d ∷ []) c.self.view_is (c.only_of.ensures.other none entries test these)
