-- Families of version 3 stay small where entries go.
use Rattle.std.proofs.Common.{◌≡◌, ℕ, Bool, true, false, not, List, [], Option, get_or, length, arith}
use Rattle.std.specs.Prelude.{Contains, filter}
use Rattle.std.specs.List.{All}
use Rattle.std.proofs.lemmas.List.Elements.{All-contains, All-filter, All-nil, All-weaker, Contains-get_or, filter_passes}
use Rattle.gate_graph.specs.Family.{reaches}
use Rattle.gate_tx.specs.Ids.{txid_of}
use Rattle.gate_pool.specs.Pool.{Admitted}
use Rattle.gate_pool.specs.Counting.{entered_beside}
use Rattle.gate_pool.specs.Family.{steps, is_below_some, ancestors_of, descendants_of}
use Rattle.gate_pool.proofs.Walking.{Contains-filter, Contains-from_filter}
use Rattle.gate_trim.specs.Expiry.{expired, is_stale}
use Rattle.gate_trim.specs.Trimming.{trim_of}
use Rattle.gate_trim.proofs.Trimmings.{trim_keeps}
use Rattle.gate_admit.specs.Policies.{Policy}
use Rattle.gate_admit.specs.Submission.{entry_of}
use Rattle.gate_admit.specs.Truc.{IsKin, TrucHolds, is_of_other_kind}
use Rattle.gate_admit.proofs.Filtering.{length_ones}
use Rattle.gate_admit.proofs.Removing.{fewer_above, fewer_below, reaches_within}

-- what is above an entry in a part was above it
above_within : (k : Admitted → Bool) (entries : List Admitted) (txid : List ℕ) (a : Admitted) → Contains (ancestors_of (filter k entries) txid) a → Contains (ancestors_of entries txid) a
above_within k entries txid a m =
    let test : Admitted → Bool = λ x. reaches (steps (filter k entries)) (txid_of x.tx) txid in
    let reached : test a ≡ true = All-contains (λ (x : Admitted). test x ≡ true) (ancestors_of (filter k entries) txid) a (filter_passes test (filter k entries)) m in
    Contains-filter (λ (x : Admitted). reaches (steps entries) (txid_of x.tx) txid) entries a (Contains-from_filter k entries a (Contains-from_filter test (filter k entries) a m))
    (reaches_within (filter k entries) entries (Contains-from_filter k entries) (txid_of a.tx) txid reached)

kin_part : (k : Admitted → Bool) (entries : List Admitted) (e : Admitted) → IsKin entries e → IsKin (filter k entries) e
kin_part k entries e h =
    let one : Admitted → ℕ = λ a. 1 in
    let x = txid_of e.tx in
    let part = filter k entries in
    record {
      alike = λ n d l. All-contains (λ (a : Admitted). is_of_other_kind e.tx a ≡ false) (ancestors_of entries x) (get_or (ancestors_of part x) n d) h.alike (above_within k entries x (get_or (ancestors_of part x) n d) (Contains-get_or (ancestors_of part x) n d l));
      above = λ own. omega (arith, h.above own, fewer_above k entries x one, length_ones (ancestors_of part x), length_ones (ancestors_of entries x));
      below = λ own. omega (arith, h.below own, fewer_below k entries x one, length_ones (descendants_of part x), length_ones (descendants_of entries x));
      small = h.small;
      child = λ own more. h.child own (omega (arith, more, fewer_above k entries x one, length_ones (ancestors_of part x), length_ones (ancestors_of entries x)));
    }

-- so they do by expiry, by trim and by a block that is connected
pub truc_part : (k : Admitted → Bool) (entries : List Admitted) → TrucHolds entries → TrucHolds (filter k entries)
truc_part k entries h = All-weaker (IsKin entries) (IsKin (filter k entries)) (λ e. kin_part k entries e) (filter k entries) (All-filter k (IsKin entries) entries h)

-- no entries
pub none_truc : TrucHolds []
none_truc = All-nil (IsKin [])

-- what expiry leaves
pub expired_truc : (stay now : ℕ) (entries : List Admitted) → TrucHolds entries → TrucHolds (expired stay now entries)
expired_truc stay now entries h = truc_part (λ (a : Admitted). not (is_below_some (is_stale stay now) entries a)) entries h

-- what trim leaves
pub trimmed_truc : (rate budget : ℕ) (entries : List Admitted) (floor : ℕ) → TrucHolds entries → TrucHolds (trim_of rate budget entries floor).entries
trimmed_truc rate budget entries floor h = trim_keeps TrucHolds (λ l txid. truc_part (λ (a : Admitted). not (reaches (steps l) txid (txid_of a.tx))) l) rate budget entries floor h

-- what is left of entries of which it holds once one entered
pub entry_truc : (policy : Policy) (budget : ℕ) (entries : List Admitted) (sibling : Option (List ℕ)) (floor : ℕ) (e : Admitted) → TrucHolds (entered_beside entries sibling e) → TrucHolds (entry_of policy budget entries sibling floor e).entries
unfolding entry_of
entry_truc policy budget entries sibling floor e h =
    let after = entered_beside entries sibling e in
    trimmed_truc policy.incremental_rate budget (expired policy.stay e.time after) floor (expired_truc policy.stay e.time after h)
