-- Families are within their limits once a transaction entered that had room.
use Rattle.std.proofs.Common.{◌≡◌, ◌≢◌, ◌≤◌, ◌+◌, ℕ, Bool, true, false, List, Option, length, arith, ⊎_elim}
use Rattle.std.specs.Prelude.{Contains, filter}
use Rattle.std.proofs.lemmas.Bool.{cases_Bool}
use Rattle.gate_tx.specs.Ids.{txid_of}
use Rattle.gate_graph.specs.Family.{reaches}
use Rattle.gate_pool.specs.Pool.{Admitted, size_of}
use Rattle.gate_pool.specs.Counting.{is_counted, entered_beside}
use Rattle.gate_pool.specs.Family.{steps, is_below_some, ancestors_of, descendants_of, ancestors_above}
use Rattle.gate_pool.proofs.Entries.{Id}
use Rattle.gate_rbf.specs.declared.ParentsOf.TheVariants.{Conflicts}
use Rattle.gate_admit.specs.Good.{IsLimited}
use Rattle.gate_admit.specs.Policies.{Policy, most_ancestors, most_descendants_size}
use Rattle.gate_admit.proofs.Childless.{IsChildless, sum_above_new, sum_below_new, sum_above_old, sum_below_old, sum_below_apart}
use Rattle.gate_admit.proofs.Filtering.{length_ones}

-- beside the descendants of an id there is room for a transaction, where some of them go
pub record HasRoom (policy : Policy) (entries : List Admitted) (sibling : Option (List ℕ)) (e : Admitted) (b : Id) : Type 0 where
  pub gone : Admitted → Bool
  pub under : (a : Admitted) → Contains entries a → gone a ≡ true → reaches (steps entries) b (txid_of a.tx) ≡ true
  pub goes : (a : Admitted) → Contains entries a → gone a ≡ true → is_below_some (is_counted sibling e.tx) entries a ≡ true
  pub count : length (descendants_of entries b) ≤ policy.descendants + length (filter gone entries)
  pub size : policy.parents ≡ Conflicts → size_of (descendants_of entries b) + e.vsize ≤ most_descendants_size policy + size_of (filter gone entries)

-- above a transaction there is room for it
pub record HasRoomAbove (policy : Policy) (entries : List Admitted) (e : Admitted) : Type 0 where
  pub count : length (ancestors_above entries e.tx.inputs) + 1 ≤ most_ancestors policy
  pub size : size_of (ancestors_above entries e.tx.inputs) + e.vsize ≤ policy.ancestors_size

-- the family of what enters
pub limited_new : {policy : Policy} {entries : List Admitted} {e : Admitted} (sibling : Option (List ℕ)) → e.vsize ≤ policy.descendants_size → IsChildless entries e → HasRoomAbove policy entries e → IsLimited policy (entered_beside entries sibling e) (txid_of e.tx)
limited_new {policy} {entries} {e} sibling light h room =
    let after = entered_beside entries sibling e in
    record {
      ancestors = omega (arith, room.count, sum_above_new sibling h (λ (a : Admitted). 1), length_ones (ancestors_of after (txid_of e.tx)), length_ones (ancestors_above entries e.tx.inputs));
      ancestors_size = omega (arith, room.size, sum_above_new sibling h (λ (a : Admitted). a.vsize));
      descendants = omega (arith, sum_below_new sibling h (λ (a : Admitted). 1), length_ones (descendants_of after (txid_of e.tx)));
      descendants_size = λ narrow. omega (arith, light, sum_below_new sibling h (λ (a : Admitted). a.vsize));
    }

-- the families of what stays
pub limited_old : {policy : Policy} {entries : List Admitted} {e : Admitted} (sibling : Option (List ℕ)) → IsChildless entries e → (b : Id) → b ≢ txid_of e.tx → IsLimited policy entries b
    → (reaches (steps (entered_beside entries sibling e)) b (txid_of e.tx) ≡ true → HasRoom policy entries sibling e b) → IsLimited policy (entered_beside entries sibling e) b
limited_old {policy} {entries} {e} sibling h b ne old room =
    let after = entered_beside entries sibling e in
    let above_count : length (ancestors_of after b) ≤ most_ancestors policy = omega (arith, old.ancestors, sum_above_old sibling h (λ (a : Admitted). 1) b ne, length_ones (ancestors_of after b), length_ones (ancestors_of entries b)) in
    let above_size : size_of (ancestors_of after b) ≤ policy.ancestors_size = omega (arith, old.ancestors_size, sum_above_old sibling h (λ (a : Admitted). a.vsize) b ne) in
    ⊎_elim
    (λ (r : reaches (steps after) b (txid_of e.tx) ≡ true).
    let w = room r in
    record {
      ancestors = above_count;
      ancestors_size = above_size;
      descendants = omega (arith, w.count, sum_below_old sibling h (λ (a : Admitted). 1) b w.gone w.under w.goes, length_ones (descendants_of after b), length_ones (descendants_of entries b), length_ones (filter w.gone entries));
      descendants_size = λ narrow. omega (arith, w.size narrow, sum_below_old sibling h (λ (a : Admitted). a.vsize) b w.gone w.under w.goes);
    })
    (λ (r : reaches (steps after) b (txid_of e.tx) ≡ false). record {
      ancestors = above_count;
      ancestors_size = above_size;
      descendants = omega (arith, old.descendants, sum_below_apart sibling h (λ (a : Admitted). 1) b r, length_ones (descendants_of after b), length_ones (descendants_of entries b));
      descendants_size = λ narrow. omega (arith, old.descendants_size narrow, sum_below_apart sibling h (λ (a : Admitted). a.vsize) b r);
    })
    (cases_Bool (reaches (steps after) b (txid_of e.tx)))
