use Rattle.std.proofs.Common.{◌≡◌, ◌++◌, ℕ, List, length, take, drop, sym, ap, subst, ◌∙◌, arith}
use Rattle.std.proofs.Math.Seq.{take-append_seam}
use Rattle.gate_pool.specs.Counting.{counted_of, is_counted, replaced_beside}
use Rattle.gate_pool.specs.Family.{AreIdsOf, is_below_some}
use Rattle.gate_pool.specs.Pool.{Admitted}
use Rattle.gate_rivals.proofs.Replacing.{replaced_by_ids}
use Rattle.gate_package.proofs.members.list_replaced.Goals as goal

pub returns : goal.returns
returns g c =
    let entries = c.args.pool.now.entries in
    let sibling = c.args.sibling.now in
    let tx = c.args.tx.now in
    let found = c.in_ok-txids.txids in
    let sorted = c.sort_by_admission.new.txids in
    let direct : AreIdsOf c.as_slice.result.now (counted_of entries sibling tx) = subst (λ (l : List (List ℕ)). AreIdsOf l (counted_of entries sibling tx)) (sym c.as_slice.ensures.value) c.in_ok-direct.ensures in
    let ids : AreIdsOf found.items (replaced_beside entries sibling tx) =
    subst (λ (l : List Admitted). AreIdsOf found.items l) (replaced_by_ids entries sibling tx c.as_slice.result.now c.recall_distinct.ensures direct) c.in_ok-txids.ensures in
    let long : found.len ≡ length sorted = omega (arith, found.ok, c.sort_by_admission.ensures.len, ap length c.as_mut_slice.ensures.value) in
    c.from_vec.ensures
    ∙ (ap (λ n. take n (sorted ++ drop (length sorted) found.items)) long
    ∙ (take-append_seam sorted (drop (length sorted) found.items)
    ∙ c.sort_by_admission.ensures.order (is_below_some (is_counted sibling tx) entries) (subst (λ (l : List (List ℕ)). AreIdsOf l (replaced_beside entries sibling tx)) (sym c.as_mut_slice.ensures.value) ids)))
