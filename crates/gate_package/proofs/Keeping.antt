-- What a package keeps: what its members keep one by one, those together that enter all, expiry and trim.
use Rattle.std.proofs.Common.{◌≡◌, ℕ, Bool, true, false, not, if◌then◌else◌, List, ◌++◌, Option, Some, None, Result, Ok, Err, refl}
use Rattle.std.specs.Prelude.{◌==◌, nat_le, Contains}
use Rattle.std.proofs.lemmas.List.Elements.{All-contains}
use Rattle.gate_bytes.specs.Order.{first_failing}
use Rattle.gate_tx.specs.Tx.{Tx}
use Rattle.gate_rules.specs.declared.PackageDenial.{PackageDenial}
use Rattle.gate_submission.specs.declared.Member.{Member}
use Rattle.gate_submission.specs.declared.PackageVerdict.TheVariants as verdicts
use Rattle.gate_tx.specs.Ids.{txid_of}
use Rattle.gate_graph.specs.Family.{reaches}
use Rattle.gate_pool.specs.Family.{is_below_some, steps, without_below, without_family}
use Rattle.gate_pool.specs.Pool.{Admitted}
use Rattle.gate_trim.specs.Expiry.{expired, is_stale}
use Rattle.gate_trim.proofs.Trimmings.{trim_keeps}
use Rattle.gate_admit.specs.Good.{IsSound, IsUnconnected}
use Rattle.gate_admit.specs.Standing.{Standing}
use Rattle.gate_admit.specs.Truc.{TrucHolds}
use Rattle.gate_admit.proofs.Kin.{truc_part}
use Rattle.gate_admit.proofs.Removing.{below_sound, family_sound}
use Rattle.gate_diagram.specs.declared.Price.{Price}
use Rattle.gate_package.specs.declared.together.Refusal.{Refusal}
use Rattle.gate_package.specs.Laws.{PackageKeepsGood, PackageKeepsTruc}
use Rattle.gate_package.specs.Packages.{Course, Judged, concluded, course_of, denied_count, denied_of, has_failed, judged_from, judged_of, landed, newcomers, packaged_of, reconsidered_as, reconsidered_by, unless_unfit}
use Rattle.gate_package.specs.Shapes.{has_conflict, has_duplicates, shape_rules}
use Rattle.gate_rivals.specs.Rivals.{is_rival, staying_beside}
use Rattle.gate_package.specs.Together.{together_of}
use Rattle.gate_package.proofs.Joining.{ComesNew, StandsFree, together_sound}
use Rattle.gate_package.proofs.Landing.{package_within}
use Rattle.gate_package.proofs.Belonging.{denied_apart, denied_distinct, denied_within}
use Rattle.gate_package.proofs.Membership.{among, course_sound, course_truc}
use Rattle.gate_package.proofs.Parting.{stands_free}
use Rattle.gate_package.proofs.Newness.{IsNew, new_if_unconnected}
use Rattle.gate_package.proofs.Shaping.{shape_passes}
use Rattle.gate_package.proofs.SmallFamilies.{together_truc}

-- those of these transactions that may enter together keep a fact about entries
abbrev pub TogetherKeep : (List Admitted → Type 0) → ℕ → Standing → ℕ → List Tx → Type 0
TogetherKeep Keeps max_rate over now txs =
    (entries : List Admitted) (these : List Tx) (prices : List Price) → StandsFree max_rate (among over entries) these prices → has_duplicates these ≡ false → has_conflict these ≡ false
    → ((tx : Tx) → Contains these tx → Contains txs tx) → Keeps entries → Keeps (entries ++ newcomers now these prices)

module _ (Keeps : List Admitted → Type 0) (max_rate : ℕ) (over : Standing) (now : ℕ) (txs : List Tx) (together : TogetherKeep Keeps max_rate over now txs)
    (parts : (test : Admitted → Bool) (entries : List Admitted) → Keeps entries → Keeps (without_below test entries)) where
  reconsidered_keeps : (entries : List Admitted) (members : List Member) (these : List Tx) → has_duplicates these ≡ false → has_conflict these ≡ false → ((tx : Tx) → Contains these tx → Contains txs tx) → Keeps entries
      → Keeps (reconsidered_by max_rate (among over entries) now members these).entries
  reconsidered_keeps entries members these distinct apart within h = by (together_of max_rate (among over entries) these) refl
    where
      by : (found : Result (List Price) Refusal) → together_of max_rate (among over entries) these ≡ found → Keeps (reconsidered_as entries now members these found).entries
      by (Ok prices) is = together (staying_beside entries these) these prices (stands_free max_rate (among over entries) these prices is) distinct apart within (parts (is_rival these) entries h)
      by (Err refusal) is = h

  judged_keeps : (course : Course) → has_duplicates txs ≡ false → has_conflict txs ≡ false → Keeps course.entries → Keeps (judged_from max_rate over now txs course).entries
  judged_keeps course distinct apart h = by (denied_count course.members == 0) (has_failed over.policy txs course.members) (nat_le (denied_count course.members) 1)
    where
      by : (none failed few : Bool)
          → Keeps (if none then concluded course verdicts.Success else if failed then concluded course verdicts.Failed else if few then concluded course verdicts.Failed
          else reconsidered_by max_rate (record over { entries = course.entries }) now course.members (denied_of txs course.members)).entries
      by true failed few = h
      by false true few = h
      by false false true = h
      by false false false =
          reconsidered_keeps course.entries course.members (denied_of txs course.members) (denied_distinct txs course.members distinct) (denied_apart txs course.members apart) (denied_within txs course.members) h

  module _ (budget : ℕ) (goes : (entries : List Admitted) (txid : List ℕ) → Keeps entries → Keeps (without_family entries txid)) where
    landed_keeps : (judged : Judged) → Keeps judged.entries → Keeps (landed over now budget judged).entries
    unfolding landed
    landed_keeps judged h = trim_keeps Keeps goes over.policy.incremental_rate budget (expired over.policy.stay now judged.entries) over.floor (parts (is_stale over.policy.stay now) judged.entries h)

    -- the entries that a package leaves
    pub package_keeps : (Keeps over.entries → Keeps (course_of max_rate over now txs).entries) → Keeps over.entries → Keeps (packaged_of max_rate over txs now budget).entries
    unfolding packaged_of judged_of
    package_keeps course h = by (first_failing (shape_rules over.chain over.policy txs)) refl
      where
        by : (found : Option PackageDenial) → first_failing (shape_rules over.chain over.policy txs) ≡ found → Keeps (unless_unfit found over (landed over now budget (judged_of max_rate over now txs))).entries
        by (Some denial) is = h
        by None is =
            let shape = shape_passes over.chain over.policy txs is in
            landed_keeps (judged_of max_rate over now txs) (judged_keeps (course_of max_rate over now txs) shape.0 shape.1 (course h))

-- entries that are sound stay so, if no connected block has a member that enters
pub package_sound : (max_rate : ℕ) (over : Standing) (txs : List Tx) (now budget : ℕ) → ((tx : Tx) → Contains txs tx → IsNew over tx) → IsSound over.policy over.chain over.entries
    → IsSound over.policy over.chain (packaged_of max_rate over txs now budget).entries
package_sound max_rate over txs now budget new h =
    package_keeps (IsSound over.policy over.chain) max_rate over now txs
    (λ entries these prices is distinct apart within good. together_sound max_rate (among over entries) now these prices is distinct apart (λ tx c. (new tx (within tx c)).behind entries good.fresh) good)
    (below_sound over.policy over.chain) budget (family_sound over.policy over.chain)
    (course_sound max_rate over now txs (λ tx c. (new tx c).alone)) h

pub package_good : PackageKeepsGood
package_good max_rate over txs now budget unconnected h = record {
  sound = package_sound max_rate over txs now budget (λ tx c. new_if_unconnected over tx (All-contains (λ (t : Tx). IsUnconnected over.chain (Some t)) txs tx unconnected c)) h.sound;
  size = package_within max_rate over txs now budget h.size;
}

-- where version 3 is standard, its families stay small in entries that are sound
pub package_small : (max_rate : ℕ) (over : Standing) (txs : List Tx) (now budget : ℕ) → over.policy.standards.truc ≡ true → ((tx : Tx) → Contains txs tx → IsNew over tx)
    → IsSound over.policy over.chain over.entries × TrucHolds over.entries
    → IsSound over.policy over.chain (packaged_of max_rate over txs now budget).entries × TrucHolds (packaged_of max_rate over txs now budget).entries
package_small max_rate over txs now budget on new h =
    package_keeps (λ entries. IsSound over.policy over.chain entries × TrucHolds entries) max_rate over now txs
    (λ entries these prices is distinct apart within good.
    let comes : (tx : Tx) → Contains these tx → ComesNew (among over entries) tx = λ tx c. (new tx (within tx c)).behind entries good.0.fresh in
    (together_sound max_rate (among over entries) now these prices is distinct apart comes good.0, together_truc max_rate (among over entries) now these prices is distinct apart comes on good.0 good.1))
    (λ test entries good. (below_sound over.policy over.chain test entries good.0, truc_part (λ e. not (is_below_some test entries e)) entries good.1)) budget
    (λ entries txid good. (family_sound over.policy over.chain entries txid good.0, truc_part (λ (a : Admitted). not (reaches (steps entries) txid (txid_of a.tx))) entries good.1))
    (course_truc max_rate over now txs on (λ tx c. (new tx c).alone)) h

pub package_truc : PackageKeepsTruc
package_truc max_rate over txs now budget on unconnected h kin =
    (package_small max_rate over txs now budget on (λ tx c. new_if_unconnected over tx (All-contains (λ (t : Tx). IsUnconnected over.chain (Some t)) txs tx unconnected c)) (h.sound, kin)).1
