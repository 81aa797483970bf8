use Rattle.std.proofs.Common.{◌≡◌, ℕ, Bool, List, sym, subst}
use Rattle.std.specs.Prelude.{IfOk, filter}
use Rattle.std.specs.List.{list_any}
use Rattle.gate_tx.specs.Tx.{Tx}
use Rattle.gate_pool.specs.Pool.{Admitted}
use Rattle.gate_pool.specs.Family.{is_below_some, all_below, AreIdsOf}
use Rattle.gate_pool.specs.Counting.{is_counted, counted_of, replaced_beside}
use Rattle.gate_rbf.specs.declared.parents.ParentsOf.{ParentsOf}
use Rattle.gate_rbf.specs.Replacing.{adds_parent, adds_unconfirmed}
use Rattle.gate_rbf.proofs.counting.CountedConflicts.adds_parents.Goals as goal

pub with_descendants-requires : goal.with_descendants-requires
with_descendants-requires g c =
    let tx = c.args.self.now.tx in
    let sibling = c.args.self.now.sibling in
    (is_counted sibling tx, subst (λ (l : List Admitted). AreIdsOf c.args.ids.now (counted_of l sibling tx)) (sym c.pool-pool.ensures) c.requires)

pub returns-in-Conflicts : goal.returns-in-Conflicts
returns-in-Conflicts g c =
    let entries = c.args.self.now.entries in
    let tx = c.args.self.now.tx in
    let sibling = c.args.self.now.sibling in
    let asked = subst (λ (l : List Admitted). (test : Admitted → Bool) → AreIdsOf c.args.ids.now (filter test l) → IfOk c.adds_parents.result (λ adds. adds ≡ list_any (adds_parent l (filter test l)) c.transaction.result.now.inputs))
    c.pool-pool.ensures c.adds_parents.ensures in
    subst (λ (p : ParentsOf). IfOk c.adds_parents.result (λ adds. adds ≡ adds_unconfirmed p entries sibling tx)) (sym c.in-Conflicts.is)
    (subst (λ (t : Tx). IfOk c.adds_parents.result (λ adds. adds ≡ list_any (adds_parent entries (counted_of entries sibling tx)) t.inputs)) c.transaction.ensures (asked (is_counted sibling tx) c.requires))

pub returns-in_ok-gone-in-Replaced : goal.returns-in_ok-gone-in-Replaced
returns-in_ok-gone-in-Replaced g c =
    let held = c.pool-pool.result.now.entries in
    let entries = c.args.self.now.entries in
    let tx = c.args.self.now.tx in
    let sibling = c.args.self.now.sibling in
    let are = subst (λ (l : List Admitted). AreIdsOf c.args.ids.now (counted_of l sibling tx)) (sym c.pool-pool.ensures) c.requires in
    let gone = subst (λ (ids : List (List ℕ)). AreIdsOf ids (all_below (is_counted sibling tx) held)) (sym c.as_slice.ensures.value) (c.in_ok-gone-in-Replaced.ensures (is_counted sibling tx) are) in
    let asked = subst (λ (l : List Admitted). IfOk c.adds_parents-in-Replaced.result (λ adds. adds ≡ list_any (adds_parent l (replaced_beside l sibling tx)) c.transaction-in-Replaced.result.now.inputs)) c.pool-pool.ensures
    (c.adds_parents-in-Replaced.ensures (is_below_some (is_counted sibling tx) held) gone) in
    subst (λ (p : ParentsOf). IfOk c.adds_parents-in-Replaced.result (λ adds. adds ≡ adds_unconfirmed p entries sibling tx)) (sym c.in-Replaced.is)
    (subst (λ (t : Tx). IfOk c.adds_parents-in-Replaced.result (λ adds. adds ≡ list_any (adds_parent entries (replaced_beside entries sibling tx)) t.inputs)) c.transaction-in-Replaced.ensures asked)
