-- What is taken beforehand suffices for what comes back, so that a pool stays one that can be rewound.
use Rattle.std.proofs.Common.{◌≡◌, ℕ, ◌+◌, ◌≤◌, Bool, not, List, [], ◌∷◌, ◌++◌, Option, Some, None, Result, Ok, Err, refl, sym, ap, subst, ◌∙◌, arith, length}
use Rattle.std.specs.Prelude.{filter, sum_by, unwrap_or}
use Rattle.std.proofs.lemmas.List.{length-append, length-map}
use Rattle.std.proofs.lemmas.List.Filters.{length-filter_both, sum_by-filter_both}
use Rattle.std.proofs.lemmas.List.Sums.{sum_by_push}
use Rattle.gate_tx.specs.Ids.{txid_of, wtxid_of}
use Rattle.gate_tx.specs.Tx.{Tx}
use Rattle.gate_rules.specs.declared.Denial.{Denial}
use Rattle.gate_submission.specs.declared.Fate.{Fate}
use Rattle.gate_pool.specs.Counting.{replaced_beside}
use Rattle.gate_pool.specs.Distinct.{AreDistinct}
use Rattle.gate_pool.specs.Pool.{Admitted, IsNotLess, IsRewindable, Pooled, Room, all_of, entry_by_txid, entry_by_wtxid, inputs_of, listing_of, room_of}
use Rattle.gate_pool.proofs.Adding.{weighed}
use Rattle.gate_pool.proofs.Ids.{AreIdsOf-listing}
use Rattle.gate_admit.specs.declared.Grant.{Grant}
use Rattle.gate_admit.specs.Standing.{Standing}
use Rattle.gate_package.specs.Judging.{member_decision}
use Rattle.gate_package.specs.Packages.{entry_as, fate_by, fate_of, fate_unless_known, replaced_by, sibling_in}

-- ---- the room for what leaves

abbrev inputs_at : Admitted → ℕ
inputs_at e = length e.tx.inputs

abbrev others : (Admitted → Bool) → List Admitted → List Admitted
others test entries = filter (λ (e : Admitted). not (test e)) entries

-- the entries of the ids that are named have so many inputs
named_inputs : (entries : List Admitted) (test : Admitted → Bool) → AreDistinct entries → inputs_of entries (listing_of (filter test entries)) ≡ sum_by inputs_at (filter test entries)
named_inputs entries test distinct = weighed inputs_at entries distinct.txids (listing_of (filter test entries)) test (AreIdsOf-listing test distinct)

-- the number of entries, and of their inputs, once some have left
module _ (entries : List Admitted) (test : Admitted → Bool) (distinct : AreDistinct entries) where
  count_parts : length (listing_of (filter test entries)) + length (others test entries) ≡ length entries
  count_parts = ap (λ n. n + length (others test entries)) (length-map (filter test entries) (λ (e : Admitted). txid_of e.tx)) ∙ length-filter_both test (λ e. not (test e)) (λ e. refl) entries

  input_parts : inputs_of entries (listing_of (filter test entries)) + sum_by inputs_at (others test entries) ≡ sum_by inputs_at entries
  input_parts = ap (λ n. n + sum_by inputs_at (others test entries)) (named_inputs entries test distinct) ∙ sum_by-filter_both test (λ e. not (test e)) (λ e. refl) inputs_at entries

-- a pool in which room was taken for what leaves with the entries of some ids, and for some more
pub record IsReserved (old reserved : Pooled) (ids : List (List ℕ)) (entries inputs : ℕ) : Type 0 where
  pub same : reserved.entries ≡ old.entries
  pub left : reserved.left ≡ old.left
  pub room : old.left.entries + length ids + entries ≤ reserved.room.entries
  pub room_inputs : old.left.inputs + inputs_of old.entries ids + inputs ≤ reserved.room.inputs

module _ (old reserved after : Pooled) (test : Admitted → Bool) (ids : List (List ℕ)) (distinct : AreDistinct old.entries) (are : ids ≡ listing_of (filter test old.entries)) where
  count_left : length ids + length (others test old.entries) ≡ length old.entries
  count_left = ap (λ (l : List (List ℕ)). length l + length (others test old.entries)) are ∙ count_parts old.entries test distinct

  inputs_left : inputs_of old.entries ids + sum_by inputs_at (others test old.entries) ≡ sum_by inputs_at old.entries
  inputs_left = ap (λ (l : List (List ℕ)). inputs_of old.entries l + sum_by inputs_at (others test old.entries)) are ∙ input_parts old.entries test distinct

  -- an entry has come in the place of those that pass a test
  pub enters_rewindable : (e : Admitted) → IsReserved old reserved ids 1 (length e.tx.inputs) → after.entries ≡ others test old.entries ++ e ∷ []
      → reserved.room.entries ≤ after.room.entries + 1 → reserved.room.inputs ≤ after.room.inputs + length e.tx.inputs
      → (all_of after).entries ≡ (all_of reserved).entries + 1 → (all_of after).inputs ≡ (all_of reserved).inputs + length e.tx.inputs → IsRewindable after
  enters_rewindable e taken is room room_inputs all all_inputs = record {
    entries =
        omega (arith, taken.room, room, all, ap length taken.same, ap (λ (r : Room). r.entries) taken.left, ap length is, length-append (others test old.entries) (e ∷ []), count_left);
    inputs =
        omega (arith, taken.room_inputs, room_inputs, all_inputs, ap (sum_by inputs_at) taken.same, ap (λ (r : Room). r.inputs) taken.left, ap (sum_by inputs_at) is, sum_by_push inputs_at (others test old.entries) e, inputs_left);
  }

  -- those that pass a test have left
  pub takes_rewindable : IsReserved old reserved ids 0 0 → after.entries ≡ others test old.entries → after.room ≡ reserved.room → all_of after ≡ all_of reserved → IsRewindable after
  takes_rewindable taken is room all = record {
    entries =
        omega (arith, taken.room, ap (λ (r : Room). r.entries) room, ap (λ (r : Room). r.entries) all, ap length taken.same, ap (λ (r : Room). r.entries) taken.left, ap length is, count_left);
    inputs =
        omega (arith, taken.room_inputs, ap (λ (r : Room). r.inputs) room, ap (λ (r : Room). r.inputs) all, ap (sum_by inputs_at) taken.same, ap (λ (r : Room). r.inputs) taken.left, ap (sum_by inputs_at) is, inputs_left);
  }

-- room was taken, or none, and nothing has moved
pub stays_rewindable : (old after : Pooled) → after.left ≡ old.left → IsNotLess old.room after.room → IsRewindable old → IsRewindable after
stays_rewindable old after left room was = record {
  entries = omega (arith, was.entries, room.entries, ap (λ (r : Room). r.entries) left);
  inputs = omega (arith, was.inputs, room.inputs, ap (λ (r : Room). r.inputs) left);
}

-- nothing has left, and the room is the same
pub untaken_rewindable : (old after : Pooled) → after.entries ≡ old.entries → after.room ≡ old.room → all_of after ≡ all_of old → IsRewindable old → IsRewindable after
untaken_rewindable old after same room all was = record {
  entries = omega (arith, was.entries, ap (λ (r : Room). r.entries) room, ap (λ (r : Room). r.entries) all, ap length same);
  inputs = omega (arith, was.inputs, ap (λ (r : Room). r.inputs) room, ap (λ (r : Room). r.inputs) all, ap (sum_by inputs_at) same);
}

-- a pool that has just been marked
pub marked_rewindable : (pool : Pooled) → pool.left ≡ room_of [] → IsRewindable pool
marked_rewindable pool none = record {
  entries = omega (arith, ap (λ (r : Room). r.entries) none);
  inputs = omega (arith, ap (λ (r : Room). r.inputs) none);
}

-- ---- what a member replaces

-- a member that was taken tells what it replaced
pub told_replaced : (max_rate : ℕ) (over : Standing) (now : ℕ) (tx : Tx) (fate : Fate) (sibling : Option (List ℕ)) (e : Admitted) → fate ≡ fate_of max_rate over tx → sibling ≡ sibling_in over tx
    → entry_as now tx fate ≡ Some e → replaced_by fate ≡ listing_of (replaced_beside over.entries sibling e.tx)
told_replaced max_rate over now tx fate sibling e is beside entered =
    subst (λ (s : Option (List ℕ)). replaced_by fate ≡ listing_of (replaced_beside over.entries s e.tx)) (sym beside)
    (subst (λ (f : Fate). replaced_by f ≡ listing_of (replaced_beside over.entries (sibling_in over tx) e.tx)) (sym is)
    (by (entry_by_wtxid over.entries (wtxid_of tx)) (entry_by_txid over.entries (txid_of tx)) (member_decision max_rate over tx) (subst (λ (f : Fate). entry_as now tx f ≡ Some e) is entered)))
  where
    by : (known other : Option Admitted) (found : Result Grant Denial) → entry_as now tx (fate_unless_known known other (fate_by over.entries (sibling_in over tx) tx found)) ≡ Some e
        → replaced_by (fate_unless_known known other (fate_by over.entries (sibling_in over tx) tx found)) ≡ listing_of (replaced_beside over.entries (sibling_in over tx) e.tx)
    by (Some known) other found h = absurd (cc)
    by None (Some other) found h = absurd (cc)
    by None None (Err denial) h = absurd (cc)
    by None None (Ok grant) h =
        let first : Admitted = record { tx = tx; fee = grant.fee; vsize = grant.vsize; time = now } in
        ap (λ (o : Option Admitted). listing_of (replaced_beside over.entries (sibling_in over tx) (unwrap_or o first).tx)) h
