use Rattle.std.proofs.Common.{◌≡◌, ℕ, List, subst, sym}
use Rattle.gate_pool.specs.Pool.{Admitted}
use Rattle.gate_pool.specs.Family.{is_below_some, all_below, sums_of, AreIdsOf}
use Rattle.gate_pool.specs.Counting.{is_counted, counted_of, replaced_beside}
use Rattle.gate_rbf.proofs.counting.CountedConflicts.replaced_sums.Goals as goal

pub with_descendants-requires : goal.with_descendants-requires
with_descendants-requires g c =
    let tx = c.args.self.now.tx in
    let sibling = c.args.self.now.sibling in
    (is_counted sibling tx, subst (λ (l : List Admitted). AreIdsOf c.args.ids.now (counted_of l sibling tx)) (sym c.pool-pool.ensures) c.requires)

pub returns : goal.returns
returns g c =
    let entries = c.pool-pool.result.now.entries in
    let tx = c.args.self.now.tx in
    let sibling = c.args.self.now.sibling in
    let are = subst (λ (l : List Admitted). AreIdsOf c.args.ids.now (counted_of l sibling tx)) (sym c.pool-pool.ensures) c.requires in
    subst (λ (l : List Admitted). c.add_up.result ≡ sums_of (replaced_beside l sibling tx)) c.pool-pool.ensures
    (c.add_up.ensures.sums (is_below_some (is_counted sibling tx) entries)
    (subst (λ (ids : List (List ℕ)). AreIdsOf ids (all_below (is_counted sibling tx) entries)) (sym c.as_slice.ensures.value) (c.in_ok-gone.ensures (is_counted sibling tx) are)))
