-- What a submission leaves: a good pool, in which what was granted stands and nothing is stale, and a floor that did not fall.
use Rattle.std.proofs.Common.{◌≡◌, ◌≤◌, ℕ, Bool, true, false, List, [], ◌++◌, Option, None, Some, Result, Ok, Err, refl, sym, ap, ◌∙◌, subst, arith}
use Rattle.std.specs.Prelude.{Contains, not, if◌then◌else◌, IfSome}
use Rattle.std.specs.Option.{option_to_list}
use Rattle.std.specs.List.{All}
use Rattle.std.proofs.lemmas.List.Elements.{All-filter, Contains-get_or}
use Rattle.gate_bytes.specs.Order.{first_failing}
use Rattle.gate_tx.specs.Ids.{txid_of}
use Rattle.gate_tx.specs.Text.{IsTx}
use Rattle.gate_tx.specs.Tx.{Tx}
use Rattle.gate_rules.specs.declared.Denial.{Denial}
use Rattle.gate_rules.specs.declared.Denial.TheVariants.{MempoolFull}
use Rattle.gate_chain.specs.History.{History}
use Rattle.gate_graph.specs.Family.{reaches}
use Rattle.gate_pool.specs.Pool.{Admitted}
use Rattle.gate_pool.specs.Counting.{entered_beside}
use Rattle.gate_pool.specs.Family.{steps}
use Rattle.gate_pool.proofs.Walking.{Contains-from_filter}
use Rattle.gate_trim.specs.Expiry.{expired, is_stale}
use Rattle.gate_trim.specs.Laws.{IsYoung}
use Rattle.gate_trim.proofs.Aging.{one_young}
use Rattle.gate_trim.proofs.Trimmings.{trim_keeps, trim_rises, trim_within}
use Rattle.gate_admit.specs.declared.attempt.Attempt.TheVariants.{First}
use Rattle.gate_admit.specs.declared.grant.Grant.{Grant}
use Rattle.gate_admit.specs.Good.{AreApart, IsGood, IsSettled, IsSound, IsUnconnected, Limits, connected_transactions, limits_for}
use Rattle.gate_admit.specs.Rules.{admission_rules, decision_of, denied_or, grant_of}
use Rattle.gate_admit.specs.Policies.{Policy, IsPolicy}
use Rattle.gate_admit.specs.Standing.{Standing}
use Rattle.gate_admit.specs.Submission.{Submitted, admitted, entry_of, holds, submitted_by, submit_of}
use Rattle.gate_admit.specs.Truc.{TrucHolds, sibling_of}
use Rattle.gate_admit.proofs.Entering.{StaysUnconnected, empty_sound, grant_sound, grant_truc, stays_if_apart, stays_if_unconnected}
use Rattle.gate_admit.proofs.Kin.{entry_truc}
use Rattle.gate_admit.proofs.Removing.{below_sound, family_sound}
use Rattle.gate_admit.proofs.Staying.{stays_within}

-- ---- entries

-- what enters a sound list leaves a good pool
entry_good : (limits : Limits) (chain : History) (entries : List Admitted) (sibling : Option (List ℕ)) (floor : ℕ) (e : Admitted) → IsSound limits.policy chain (entered_beside entries sibling e) → IsGood limits chain (entry_of limits.policy limits.budget entries sibling floor e).entries
unfolding entry_of
entry_good limits chain entries sibling floor e h =
    record {
      sound = trim_keeps (IsSound limits.policy chain) (family_sound limits.policy chain) limits.policy.incremental_rate limits.budget (expired limits.policy.stay e.time (entered_beside entries sibling e)) floor (below_sound limits.policy chain (is_stale limits.policy.stay e.time) (entered_beside entries sibling e) h);
      size = trim_within limits.policy.incremental_rate limits.budget (expired limits.policy.stay e.time (entered_beside entries sibling e)) floor;
    }

-- no entry is left that came too long ago
abbrev pub AreYoung : ℕ → ℕ → List Admitted → Type 0
AreYoung stay now entries = All (IsYoung stay now) entries

expired_young : (stay now : ℕ) (entries : List Admitted) → AreYoung stay now (expired stay now entries)
expired_young stay now entries k d l = one_young stay now entries _ (Contains-get_or (expired stay now entries) k d l)

entry_young : (policy : Policy) (budget : ℕ) (entries : List Admitted) (sibling : Option (List ℕ)) (floor : ℕ) (e : Admitted) → AreYoung policy.stay e.time (entry_of policy budget entries sibling floor e).entries
unfolding entry_of
entry_young policy budget entries sibling floor e =
    trim_keeps (AreYoung policy.stay e.time) (λ l txid. All-filter (λ (a : Admitted). not (reaches (steps l) txid (txid_of a.tx))) (IsYoung policy.stay e.time) l)
    policy.incremental_rate budget (expired policy.stay e.time (entered_beside entries sibling e)) floor (expired_young policy.stay e.time (entered_beside entries sibling e))

entry_floor : (policy : Policy) (budget : ℕ) (entries : List Admitted) (sibling : Option (List ℕ)) (floor : ℕ) (e : Admitted) → floor ≤ (entry_of policy budget entries sibling floor e).floor
unfolding entry_of
entry_floor policy budget entries sibling floor e = trim_rises policy.incremental_rate budget (expired policy.stay e.time (entered_beside entries sibling e)) floor

-- what is left was there, or came
pub entry_within : (policy : Policy) (budget : ℕ) (entries : List Admitted) (sibling : Option (List ℕ)) (floor : ℕ) (e a : Admitted) → Contains (entry_of policy budget entries sibling floor e).entries a → Contains (entered_beside entries sibling e) a
unfolding entry_of
entry_within policy budget entries sibling floor e =
    trim_keeps (λ l. (a : Admitted) → Contains l a → Contains (entered_beside entries sibling e) a) (λ l txid h a m. h a (Contains-from_filter (λ (x : Admitted). not (reaches (steps l) txid (txid_of x.tx))) l a m))
    policy.incremental_rate budget (expired policy.stay e.time (entered_beside entries sibling e)) floor (λ a m. stays_within (is_stale policy.stay e.time) (entered_beside entries sibling e) a m)

-- ---- submissions

-- over a good pool what was decided leaves a good pool
found_good : (over : Standing) (tx : Tx) (now budget : ℕ) (found : Option Denial) → (found ≡ None → IsSound over.policy over.chain (entered_beside over.entries (sibling_of First over.policy over.entries tx) (admitted tx (grant_of First over tx) now)))
    → IsGood (limits_for over.policy budget) over.chain over.entries → IsGood (limits_for over.policy budget) over.chain (submitted_by over (Some tx) now budget (denied_or found (grant_of First over tx))).entries
found_good over tx now budget (Some denial) h good = good
found_good over tx now budget None h good = entry_good (limits_for over.policy budget) over.chain over.entries (sibling_of First over.policy over.entries tx) over.floor (admitted tx (grant_of First over tx) now) (h refl)

-- a submission keeps a pool good
pub submission_good : (over : Standing) (tx : Option Tx) (now budget : ℕ) → StaysUnconnected over tx → IsGood (limits_for over.policy budget) over.chain over.entries
    → IsGood (limits_for over.policy budget) over.chain (submit_of over tx now budget).entries
unfolding submit_of decision_of
submission_good over None now budget new good = good
submission_good over (Some tx) now budget new good = found_good over tx now budget (first_failing (admission_rules First over tx)) (grant_sound over tx now new good.sound) good

-- a submission of what is in no connected block does
pub unconnected_good : (over : Standing) (tx : Option Tx) (now budget : ℕ) → IsUnconnected over.chain tx → IsGood (limits_for over.policy budget) over.chain over.entries
    → IsGood (limits_for over.policy budget) over.chain (submit_of over tx now budget).entries
unconnected_good over tx now budget new good = submission_good over tx now budget (stays_if_unconnected over tx new) good

-- so does what a submission comes to, where transactions are told apart by their ids
pub kept_good : (over : Standing) (tx : Option Tx) (now budget : ℕ) (after : Submitted)
    → submit_of over tx now budget ≡ after → IsSettled over.chain → IfSome tx IsTx → AreApart (option_to_list tx ++ connected_transactions over.chain)
    → IsGood (limits_for over.policy budget) over.chain over.entries → IsGood (limits_for over.policy budget) over.chain after.entries
kept_good over tx now budget after is settled is_tx apart good =
    subst (λ (s : Submitted). IsGood (limits_for over.policy budget) over.chain s.entries) is (submission_good over tx now budget (stays_if_apart over tx settled is_tx apart) good)

-- over a good pool whose families of version 3 are small it leaves such families, where version 3 is standard
found_truc : (over : Standing) (tx : Tx) (now budget : ℕ) (found : Option Denial) → (found ≡ None → TrucHolds (entered_beside over.entries (sibling_of First over.policy over.entries tx) (admitted tx (grant_of First over tx) now)))
    → TrucHolds over.entries → TrucHolds (submitted_by over (Some tx) now budget (denied_or found (grant_of First over tx))).entries
found_truc over tx now budget (Some denial) h kin = kin
found_truc over tx now budget None h kin = entry_truc over.policy budget over.entries (sibling_of First over.policy over.entries tx) over.floor (admitted tx (grant_of First over tx) now) (h refl)

pub submission_truc : (over : Standing) (tx : Option Tx) (now budget : ℕ) → over.policy.standards.truc ≡ true → IsUnconnected over.chain tx → IsGood (limits_for over.policy budget) over.chain over.entries
    → TrucHolds over.entries → TrucHolds (submit_of over tx now budget).entries
unfolding submit_of decision_of
submission_truc over None now budget on new good kin = kin
submission_truc over (Some tx) now budget on new good kin =
    found_truc over tx now budget (first_failing (admission_rules First over tx)) (λ granted. grant_truc over tx now (stays_if_unconnected over (Some tx) new) good.sound granted on kin) kin

-- a pool without entries is good
pub empty_good : (limits : Limits) (chain : History) → IsPolicy limits.policy → IsGood limits chain []
empty_good limits chain bounds = record { sound = empty_sound limits.policy chain bounds; size = omega arith }

-- ---- what a grant says

granted_here : (b : Bool) (made grant : Grant) → (if b then Ok made else Err MempoolFull) ≡ Ok grant → b ≡ true
granted_here true made grant h = refl
granted_here false made grant h = cc

denied_here : (b : Bool) (grant : Grant) → (if b then Ok grant else Err MempoolFull) ≡ Err MempoolFull → b ≡ false
denied_here true grant h = cc
denied_here false grant h = refl

pub granted_held : (over : Standing) (tx : Tx) (now budget : ℕ) (grant : Grant) → (submit_of over (Some tx) now budget).decision ≡ Ok grant → holds (submit_of over (Some tx) now budget).entries (txid_of tx) ≡ true
unfolding submit_of
granted_held over tx now budget grant h = go (decision_of First over (Some tx)) h
  where
    go : (decision : Result Grant Denial) → (submitted_by over (Some tx) now budget decision).decision ≡ Ok grant → holds (submitted_by over (Some tx) now budget decision).entries (txid_of tx) ≡ true
    go (Err denial) k = cc
    go (Ok made) k = granted_here (holds (entry_of over.policy budget over.entries (sibling_of First over.policy over.entries tx) over.floor (admitted tx made now)).entries (txid_of tx)) made grant k

pub granted_young : (over : Standing) (tx : Tx) (now budget : ℕ) (grant : Grant) → (submit_of over (Some tx) now budget).decision ≡ Ok grant → AreYoung over.policy.stay now (submit_of over (Some tx) now budget).entries
unfolding submit_of
granted_young over tx now budget grant h = go (decision_of First over (Some tx)) h
  where
    go : (decision : Result Grant Denial) → (submitted_by over (Some tx) now budget decision).decision ≡ Ok grant → AreYoung over.policy.stay now (submitted_by over (Some tx) now budget decision).entries
    go (Err denial) k = cc
    go (Ok made) k = entry_young over.policy budget over.entries (sibling_of First over.policy over.entries tx) over.floor (admitted tx made now)

pub full_gone : (over : Standing) (tx : Tx) (now budget : ℕ) (grant : Grant) → decision_of First over (Some tx) ≡ Ok grant → (submit_of over (Some tx) now budget).decision ≡ Err MempoolFull
    → holds (submit_of over (Some tx) now budget).entries (txid_of tx) ≡ false
unfolding submit_of
full_gone over tx now budget grant d h =
    ap (λ x. holds (submitted_by over (Some tx) now budget x).entries (txid_of tx)) d
    ∙ denied_here (holds (entry_of over.policy budget over.entries (sibling_of First over.policy over.entries tx) over.floor (admitted tx grant now)).entries (txid_of tx)) grant (sym (ap (λ x. (submitted_by over (Some tx) now budget x).decision) d) ∙ h)

-- ---- the floor

pub submission_floor : (over : Standing) (tx : Option Tx) (now budget : ℕ) → over.floor ≤ (submit_of over tx now budget).floor
unfolding submit_of
submission_floor over tx now budget = go tx (decision_of First over tx)
  where
    go : (tx : Option Tx) (decision : Result Grant Denial) → over.floor ≤ (submitted_by over tx now budget decision).floor
    go tx (Err denial) = omega arith
    go None (Ok grant) = omega arith
    go (Some tx) (Ok grant) = entry_floor over.policy budget over.entries (sibling_of First over.policy over.entries tx) over.floor (admitted tx grant now)
