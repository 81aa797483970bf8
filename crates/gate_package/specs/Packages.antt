-- A package: its members one by one, those together that are denied, and what pool, floor and outcome are then.
use Rattle.std.specs.Prelude.{◌≡◌, ℕ, suc, nat_le, ◌==◌, Bool, true, false, not, ◌||◌, if◌then◌else◌, List, [], ◌∷◌, ◌++◌, filter, map, Contains, is_none, unwrap_or, Option, Some, None, Result, Ok, Err}
use Rattle.std.specs.List.{count_by}
use Rattle.gate_bytes.specs.Order.{first_failing}
use Rattle.gate_tx.specs.Ids.{txid_of, wtxid_of}
use Rattle.gate_tx.specs.Tx.{Tx}
use Rattle.gate_rules.specs.declared.Denial.{Denial}
use Rattle.gate_rules.specs.declared.PackageDenial.{PackageDenial}
use Rattle.gate_submission.specs.declared.Fate.{Fate}
use Rattle.gate_submission.specs.declared.Fate.TheVariants.{Taken, Known, OtherWitness, Denied}
use Rattle.gate_submission.specs.declared.Member.{Member}
use Rattle.gate_submission.specs.declared.Together.{Together}
use Rattle.gate_submission.specs.declared.PackageVerdict.{PackageVerdict}
use Rattle.gate_submission.specs.declared.PackageVerdict.TheVariants as verdicts
use Rattle.gate_submission.specs.declared.PackageOutcome.{PackageOutcome}
use Rattle.gate_submission.specs.PackageOutcomes.{is_held, settled, unjudged}
use Rattle.gate_pool.specs.Pool.{Admitted, entry_by_txid, entry_by_wtxid, listing_of}
use Rattle.gate_pool.specs.Counting.{entered_beside, replaced_beside}
use Rattle.gate_trim.specs.Expiry.{expired}
use Rattle.gate_trim.specs.Trimming.{Trimmed, trim_of}
use Rattle.gate_admit.specs.declared.Grant.{Grant}
use Rattle.gate_admit.specs.Standing.{Standing}
use Rattle.gate_admit.specs.Policies.{Policy}
use Rattle.gate_admit.specs.Truc.{sibling_of}
use Rattle.gate_admit.specs.declared.Attempt.TheVariants.{First}
use Rattle.gate_package.specs.declared.together.DeniedOne.{DeniedOne}
use Rattle.gate_diagram.specs.declared.Price.{Price}
use Rattle.gate_package.specs.declared.together.Refusal.{Refusal}
use Rattle.gate_package.specs.Judging.{member_decision, is_reconsiderable}
use Rattle.gate_package.specs.Shapes.{has_conflict, has_duplicates, shape_rules}
use Rattle.gate_diagram.specs.Prices.{price_sum_fee, price_sum_size}
use Rattle.gate_rivals.specs.Rivals.{replaced_together, staying_beside}
use Rattle.gate_package.specs.Together.{replaces_some, together_of}

-- ---- one by one

-- the members that were judged, and the entries as they left them
pub record Course : Type 0 where
  pub members : List Member
  pub entries : List Admitted

abbrev pub member_with : Tx → Fate → Member
member_with tx fate = record { txid = txid_of tx; wtxid = wtxid_of tx; fate = fate }

-- the id of the entry that a member evicts
abbrev pub sibling_in : Standing → Tx → Option (List ℕ)
sibling_in over tx = sibling_of First over.policy over.entries tx

abbrev pub fate_by : List Admitted → Option (List ℕ) → Tx → Result Grant Denial → Fate
fate_by entries sibling tx (Ok grant) = Taken grant.fee grant.vsize false (listing_of (replaced_beside entries sibling tx))
fate_by entries sibling tx (Err denial) = Denied denial

-- what becomes of a member that no entry has the wtxid of, or the txid: an entry may have its txid with another witness
abbrev pub fate_unless_known : Option Admitted → Option Admitted → Fate → Fate
fate_unless_known (Some e) other fate = Known e.fee e.vsize
fate_unless_known None (Some e) fate = OtherWitness (wtxid_of e.tx)
fate_unless_known None None fate = fate

abbrev pub fate_of : ℕ → Standing → Tx → Fate
fate_of max_rate over tx =
    fate_unless_known (entry_by_wtxid over.entries (wtxid_of tx)) (entry_by_txid over.entries (txid_of tx)) (fate_by over.entries (sibling_in over tx) tx (member_decision max_rate over tx))

-- the ids of what a member has replaced
abbrev pub replaced_by : Fate → List (List ℕ)
replaced_by (Taken fee vsize together replaced) = replaced
replaced_by (Known fee vsize) = []
replaced_by (OtherWitness wtxid) = []
replaced_by (Denied denial) = []

-- the entry of a member, if it was taken at this second
abbrev pub entry_as : ℕ → Tx → Fate → Option Admitted
entry_as now tx (Taken fee vsize together replaced) = Some (record { tx = tx; fee = fee; vsize = vsize; time = now })
entry_as now tx (Known fee vsize) = None
entry_as now tx (OtherWitness wtxid) = None
entry_as now tx (Denied denial) = None

-- no entry has an id of this one
pub record IsAbsent (entries : List Admitted) (e : Admitted) : Type 0 where
  pub txid : entry_by_txid entries (txid_of e.tx) ≡ None
  pub wtxid : entry_by_wtxid entries (wtxid_of e.tx) ≡ None

-- the entries behind a member: what it replaces leaves, its sibling too, and it stands at their end
abbrev pub entries_behind : List Admitted → Option (List ℕ) → Option Admitted → List Admitted
entries_behind entries sibling None = entries
entries_behind entries sibling (Some e) = entered_beside entries sibling e

abbrev pub course_behind : ℕ → Standing → ℕ → Tx → List Admitted
course_behind max_rate over now tx = entries_behind over.entries (sibling_in over tx) (entry_as now tx (fate_of max_rate over tx))

abbrev pub with_member : Member → Course → Course
with_member m course = record { members = m ∷ course.members; entries = course.entries }

-- each member over the entries as those before it left them. Nothing expires, and nothing is trimmed
unfoldable pub course_of : ℕ → Standing → ℕ → List Tx → Course
course_of max_rate over now [] = record { members = []; entries = over.entries }
course_of max_rate over now (tx ∷ txs) =
    with_member (member_with tx (fate_of max_rate over tx))
    (course_of max_rate (record over { entries = course_behind max_rate over now tx }) now txs)

-- ---- those that are denied

abbrev pub is_denial : Fate → Bool
is_denial (Taken fee vsize together replaced) = false
is_denial (Known fee vsize) = false
is_denial (OtherWitness wtxid) = false
is_denial (Denied denial) = true

abbrev pub is_denied : Member → Bool
is_denied m = is_denial m.fate

-- those that are judged together can't mend what became of a transaction
abbrev pub is_lost : Policy → Tx → Fate → Bool
is_lost policy tx (Taken fee vsize together replaced) = false
is_lost policy tx (Known fee vsize) = false
is_lost policy tx (OtherWitness wtxid) = false
is_lost policy tx (Denied denial) = not (is_reconsiderable policy tx denial)

abbrev pub has_failed : Policy → List Tx → List Member → Bool
has_failed policy [] members = false
has_failed policy (tx ∷ txs) [] = false
has_failed policy (tx ∷ txs) (m ∷ members) = is_lost policy tx m.fate || has_failed policy txs members

abbrev pub denied_count : List Member → ℕ
denied_count members = count_by is_denied members

-- the transactions of the members that are denied
abbrev pub denied_of : List Tx → List Member → List Tx
denied_of [] members = []
denied_of (tx ∷ txs) [] = []
denied_of (tx ∷ txs) (m ∷ members) = if is_denied m then tx ∷ denied_of txs members else denied_of txs members

abbrev pub taken_at : Price → List (List ℕ) → Fate
taken_at price replaced = Taken price.fee price.vsize true replaced

-- the members once those that were denied are taken together, each at its price: the first of them tells what they replaced
abbrev pub granted : List (List ℕ) → List Price → List Member → List Member
granted replaced prices [] = []
granted replaced [] (m ∷ members) = m ∷ granted replaced [] members
granted replaced (price ∷ prices) (m ∷ members) =
    if is_denied m then record m { fate = taken_at price replaced } ∷ granted [] prices members else m ∷ granted replaced (price ∷ prices) members

abbrev pub one_refused : DeniedOne → ℕ → List Member → List Member
one_refused one place [] = []
one_refused one place (m ∷ members) =
    if is_denied m then (if place == one.place then record m { fate = Denied one.denial } else m) ∷ one_refused one (suc place) members else m ∷ one_refused one place members

-- the members once a refusal has named one of those that were denied, by its place among them
abbrev pub refused : Option DeniedOne → List Member → List Member
refused None members = members
refused (Some one) members = one_refused one 0 members

-- those that enter together, at these prices and this second
abbrev pub newcomers : ℕ → List Tx → List Price → List Admitted
newcomers now [] prices = []
newcomers now (tx ∷ txs) [] = []
newcomers now (tx ∷ txs) (price ∷ prices) = record { tx = tx; fee = price.fee; vsize = price.vsize; time = now } ∷ newcomers now txs prices

-- the entries once they have entered: what they replace leaves, and they stand at the end in their order
abbrev pub entered_together : List Admitted → ℕ → List Tx → List Price → List Admitted
entered_together entries now txs prices = staying_beside entries txs ++ newcomers now txs prices

abbrev pub all_together : List Tx → List Price → Together
all_together txs prices = record { fee = price_sum_fee prices; vsize = price_sum_size prices; wtxids = map wtxid_of txs }

-- what became of a package before it lands, and the entries that it leaves
pub record Judged : Type 0 where
  pub outcome : PackageOutcome
  pub entries : List Admitted

abbrev pub judged_as : PackageVerdict → List Member → Option Together → List Admitted → Judged
judged_as verdict members together entries = record { outcome = record { verdict = verdict; members = members; together = together }; entries = entries }

abbrev pub reconsidered_as : List Admitted → ℕ → List Member → List Tx → Result (List Price) Refusal → Judged
reconsidered_as entries now members these (Ok prices) =
    judged_as verdicts.Success (granted (listing_of (replaced_together entries these)) prices members) (Some (all_together these prices)) (entered_together entries now these prices)
reconsidered_as entries now members these (Err refusal) = judged_as refusal.verdict (refused refusal.member members) None entries

-- the members once these of them, which are denied, were judged together
abbrev pub reconsidered_by : ℕ → Standing → ℕ → List Member → List Tx → Judged
reconsidered_by max_rate over now members these = reconsidered_as over.entries now members these (together_of max_rate over these)

-- no entry has an id of one of these
abbrev pub AreAbsent : List Admitted → List Tx → Type 0
AreAbsent entries txs = (tx : Tx) → Contains txs tx → (entry_by_txid entries (txid_of tx) ≡ None) × (entry_by_wtxid entries (wtxid_of tx) ≡ None)

-- these may stand behind the entries, each of them new, in the place of none
pub record AreNewcomers (entries : List Admitted) (txs : List Tx) : Type 0 where
  pub absent : AreAbsent entries txs
  pub replace_none : replaces_some entries txs ≡ false
  pub distinct : has_duplicates txs ≡ false
  pub apart : has_conflict txs ≡ false

abbrev pub concluded : Course → PackageVerdict → Judged
concluded course verdict = judged_as verdict course.members None course.entries

-- those that are denied are judged together if they are two or more and none is lost
abbrev pub judged_from : ℕ → Standing → ℕ → List Tx → Course → Judged
judged_from max_rate over now txs course =
    if denied_count course.members == 0 then concluded course verdicts.Success
    else if has_failed over.policy txs course.members then concluded course verdicts.Failed
    else if nat_le (denied_count course.members) 1 then concluded course verdicts.Failed
    else reconsidered_by max_rate (record over { entries = course.entries }) now course.members (denied_of txs course.members)

unfoldable pub judged_of : ℕ → Standing → ℕ → List Tx → Judged
judged_of max_rate over now txs = judged_from max_rate over now txs (course_of max_rate over now txs)

-- ---- the landing

-- the txids of the members that are in the pool
abbrev pub held_txids : List Member → List (List ℕ)
held_txids members = map (λ (m : Member). m.txid) (filter is_held members)

-- those of these that no entry has
abbrev pub gone_from : List Admitted → List (List ℕ) → List (List ℕ)
gone_from entries txids = filter (λ txid. is_none (entry_by_txid entries txid)) txids

-- what a package leaves: its outcome, the entries and the floor
pub record Packaged : Type 0 where
  pub outcome : PackageOutcome
  pub entries : List Admitted
  pub floor : ℕ

abbrev pub landed_as : Judged → Trimmed → Packaged
landed_as judged after = record { outcome = settled (gone_from after.entries (held_txids judged.outcome.members)) judged.outcome; entries = after.entries; floor = after.floor }

-- entries expire at this second, and then the pool is trimmed to the budget of virtual bytes, once
unfoldable pub landed : Standing → ℕ → ℕ → Judged → Packaged
landed over now budget judged = landed_as judged (trim_of over.policy.incremental_rate budget (expired over.policy.stay now judged.entries) over.floor)

abbrev pub unless_unfit : Option PackageDenial → Standing → Packaged → Packaged
unless_unfit (Some denial) over fit = record { outcome = unjudged denial; entries = over.entries; floor = over.floor }
unless_unfit None over fit = fit

-- a package that is submitted at this second, with this budget of virtual bytes and this greatest feerate; each member is a
-- transaction
unfoldable pub packaged_of : ℕ → Standing → List Tx → ℕ → ℕ → Packaged
packaged_of max_rate over txs now budget =
    unless_unfit (first_failing (shape_rules over.chain over.policy txs)) over (landed over now budget (judged_of max_rate over now txs))

abbrev pub Leaves : Option ℕ → Standing → List Tx → ℕ → ℕ → List Admitted → ℕ → PackageOutcome → Type 0
Leaves max_rate over txs now budget entries floor outcome =
    packaged_of (unwrap_or max_rate 0) over txs now budget ≡ record { outcome = outcome; entries = entries; floor = floor }
