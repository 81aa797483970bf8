-- What becomes of a package, by how many of its members are denied, and what its landing makes of that.
use Rattle.std.proofs.Common.{◌≡◌, ◌≢◌, ◌⊎◌, inl, inr, ℕ, zero, suc, Bool, true, false, if◌then◌else◌, List, Some, None, refl, sym, ap, ◌∙◌, arith, true≢false, ⊎_elim}
use Rattle.std.specs.Prelude.{◌==◌, nat_le}
use Rattle.std.proofs.lemmas.Bool.{eqb-true, false_from_ne_true, leb-true}
use Rattle.gate_bytes.specs.Order.{first_failing}
use Rattle.gate_tx.specs.Tx.{Tx}
use Rattle.gate_rules.specs.declared.PackageDenial.{PackageDenial}
use Rattle.gate_submission.specs.declared.Member.{Member}
use Rattle.gate_submission.specs.declared.PackageVerdict.TheVariants as verdicts
use Rattle.gate_submission.specs.declared.PackageOutcome.{PackageOutcome}
use Rattle.gate_submission.specs.PackageOutcomes.{settled, unjudged}
use Rattle.gate_pool.specs.Pool.{Admitted}
use Rattle.gate_trim.specs.Expiry.{expired}
use Rattle.gate_trim.specs.Trimming.{trim_of}
use Rattle.gate_admit.specs.Standing.{Standing}
use Rattle.gate_package.specs.Packages.{Judged, course_of, denied_count, denied_of, gone_from, has_failed, judged_as, judged_from, judged_of, landed, landed_as, packaged_of, reconsidered_by, unless_unfit}
use Rattle.gate_package.specs.Shapes.{shape_rules}
use Rattle.gate_package.specs.Staging.{Staged, StagesAs}

-- ---- how many are denied

none_denied : {J : Type 0} (n : ℕ) (failed : Bool) (a b r : J) → n ≡ 0 → a ≡ (if n == 0 then a else if failed then b else if nat_le n 1 then b else r)
none_denied zero failed a b r h = refl
none_denied (suc n) failed a b r h = absurd (cc)

picks_second : {J : Type 0} (none failed few : Bool) (a b r : J) → none ≡ false → (failed ≡ true) ⊎ (few ≡ true) → b ≡ (if none then a else if failed then b else if few then b else r)
picks_second true failed few a b r h k = absurd (true≢false h)
picks_second false true few a b r h k = refl
picks_second false false true a b r h k = refl
picks_second false false false a b r h (inl k) = absurd (true≢false (sym k))
picks_second false false false a b r h (inr k) = absurd (true≢false (sym k))

picks_last : {J : Type 0} (none failed few : Bool) (a b r : J) → none ≡ false → failed ≡ false → few ≡ false → r ≡ (if none then a else if failed then b else if few then b else r)
picks_last true failed few a b r h k l = absurd (true≢false h)
picks_last false true few a b r h k l = absurd (true≢false k)
picks_last false false true a b r h k l = absurd (true≢false l)
picks_last false false false a b r h k l = refl

some_there : (n : ℕ) → n ≢ 0 → (n == 0) ≡ false
some_there n h = false_from_ne_true (n == 0) (λ e. h (eqb-true n 0 e))

one_lost : {J : Type 0} (n : ℕ) (failed : Bool) (a b r : J) → n ≢ 0 → (failed ≡ true) ⊎ (n ≡ 1) → b ≡ (if n == 0 then a else if failed then b else if nat_le n 1 then b else r)
one_lost n failed a b r h k = picks_second (n == 0) failed (nat_le n 1) a b r (some_there n h) (⊎_elim (λ e. inl e) (λ e. inr (ap (λ m. nat_le m 1) e)) k)

some_denied : {J : Type 0} (n : ℕ) (failed : Bool) (a b r : J) → n ≢ 0 → failed ≡ false → n ≢ 1 → r ≡ (if n == 0 then a else if failed then b else if nat_le n 1 then b else r)
some_denied n failed a b r h k few = picks_last (n == 0) failed (nat_le n 1) a b r (some_there n h) k (false_from_ne_true (nat_le n 1) (λ e. omega (arith, h, few, leb-true n 1 e)))

module _ (max_rate : ℕ) (over : Standing) (now : ℕ) (txs : List Tx) (members : List Member) (entries : List Admitted)
    (told : members ≡ (course_of max_rate over now txs).members) (stands : entries ≡ (course_of max_rate over now txs).entries) where
  success : Judged
  success = judged_as verdicts.Success members None entries

  failure : Judged
  failure = judged_as verdicts.Failed members None entries

  others : Judged
  others = reconsidered_by max_rate (record over { entries = entries }) now members (denied_of txs members)

  behind_course : judged_from max_rate over now txs (record { members = members; entries = entries }) ≡ judged_of max_rate over now txs
  unfolding judged_of
  behind_course = λ i. judged_from max_rate over now txs (record { members = told i; entries = stands i })

  pub all_taken : denied_count members ≡ 0 → judged_as verdicts.Success members None entries ≡ judged_of max_rate over now txs
  unfolding judged_of success failure others
  all_taken h = none_denied (denied_count members) (has_failed over.policy txs members) success failure others h ∙ behind_course

  pub all_fail : denied_count members ≢ 0 → (has_failed over.policy txs members ≡ true) ⊎ (denied_count members ≡ 1) → judged_as verdicts.Failed members None entries ≡ judged_of max_rate over now txs
  unfolding judged_of success failure others
  all_fail h k = one_lost (denied_count members) (has_failed over.policy txs members) success failure others h k ∙ behind_course

  pub judged_again : denied_count members ≢ 0 → has_failed over.policy txs members ≡ false → denied_count members ≢ 1
      → reconsidered_by max_rate (record over { entries = entries }) now members (denied_of txs members) ≡ judged_of max_rate over now txs
  unfolding judged_of success failure others
  judged_again h k few = some_denied (denied_count members) (has_failed over.policy txs members) success failure others h k few ∙ behind_course

-- ---- the landing

pub left_out : (max_rate : ℕ) (over : Standing) (txs : List Tx) (now budget : ℕ) (denial : PackageDenial) (outcome : PackageOutcome) (entries : List Admitted)
    → first_failing (shape_rules over.chain over.policy txs) ≡ Some denial → outcome ≡ unjudged denial → entries ≡ over.entries
    → packaged_of max_rate over txs now budget ≡ record { outcome = outcome; entries = entries; floor = over.floor }
unfolding packaged_of
left_out max_rate over txs now budget denial outcome entries h told stay =
    ap (λ found. unless_unfit found over (landed over now budget (judged_of max_rate over now txs))) h ∙ (λ i. record { outcome = sym told i; entries = sym stay i; floor = over.floor })

-- a package that was staged lands as what it is judged to be
pub lands_staged : (max_rate : ℕ) (over : Standing) (txs : List Tx) (now budget : ℕ) (outcome settles : PackageOutcome) (stage : Staged) (meanwhile after : List Admitted) (floor : ℕ) (gone : List (List ℕ))
    → first_failing (shape_rules over.chain over.policy txs) ≡ None → StagesAs max_rate over now txs outcome stage meanwhile
    → trim_of over.policy.incremental_rate budget (expired over.policy.stay now meanwhile) over.floor ≡ record { entries = after; floor = floor }
    → gone ≡ gone_from after stage.held → settles ≡ settled gone outcome → packaged_of max_rate over txs now budget ≡ record { outcome = settles; entries = after; floor = floor }
unfolding packaged_of landed
lands_staged max_rate over txs now budget outcome settles stage meanwhile after floor gone fit staged trimmed left told =
    ap (λ found. unless_unfit found over (landed over now budget (judged_of max_rate over now txs))) fit
    ∙ (ap (λ j. landed over now budget j) staged.judged
    ∙ (ap (λ t. landed_as (record { outcome = outcome; entries = meanwhile }) t) trimmed
    ∙ ap (λ (o : PackageOutcome). record { outcome = o; entries = after; floor = floor }) (sym (told ∙ ap (λ l. settled l outcome) (left ∙ ap (gone_from after) staged.held)))))
