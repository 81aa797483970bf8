use Rattle.std.proofs.Common.{◌<◌, List, length, subst, sym}
use Rattle.gate_pool.specs.Pool.{Admitted}
use Rattle.gate_pool.specs.Family.{AreIdsOf}
use Rattle.gate_pool.specs.Counting.{counted_of}
use Rattle.gate_rbf.specs.Direct.{AreThese, BesideSibling}
use Rattle.gate_rbf.proofs.Rivals.{AreIdsOf-these}
use Rattle.gate_rbf.proofs.counting.CountedConflicts.ids_within.Goals as goal

pub returns-in_default-clause-many : goal.returns-in_default-clause-many
returns-in_default-clause-many g c = λ _.
    let direct = c.self.inside in
    let counted = counted_of direct.pool.now.entries direct.sibling direct.tx.now in
    let these : AreThese c.as_slice.result.now counted = subst (λ (l : List Admitted). AreThese l counted) (sym c.as_slice.ensures.value) c.self.invariant in
    subst (λ (b : BesideSibling). c.args.most < length (counted_of b.entries b.sibling b.tx)) c.self.view_is (c.in_ok-ids.ensures.many c.in_default.is counted these)

pub returns-clause-found : goal.returns-clause-found
returns-clause-found g c =
    let direct = c.self.inside in
    let found = direct.found.items in
    let ids = c.in-Some.ids.items in
    let are : AreIdsOf ids c.as_slice.result.now = rw c.in-Some.is at c.in_ok-ids.ensures.found in
    subst (λ (b : BesideSibling). AreIdsOf ids (counted_of b.entries b.sibling b.tx)) c.self.view_is
    (AreIdsOf-these ids found (counted_of direct.pool.now.entries direct.sibling direct.tx.now) c.self.invariant (subst (λ (l : List Admitted). AreIdsOf ids l) c.as_slice.ensures.value are))
