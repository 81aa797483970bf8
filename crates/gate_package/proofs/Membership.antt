-- A member that is granted by itself would be granted as a submission, and so members one by one keep what each submission keeps.
use Rattle.std.proofs.Common.{◌≡◌, ◌+◌, ℕ, Bool, true, not, ◌&&◌, ◌||◌, if◌then◌else◌, List, [], ◌∷◌, ◌++◌, length, Option, Some, None, Ok, refl, sym, ap, ◌∙◌, arith}
use Rattle.std.specs.Prelude.{◌-◌, ◌==◌, nat_le, Contains}
use Rattle.std.specs.List.{list_all}
use Rattle.std.specs.Option.{option_or}
use Rattle.std.proofs.lemmas.Bool.{and_parts, and_from, le-leb, leb-true, not-false}
use Rattle.gate_bytes.specs.Order.{Rule, first_failing, NoneFails}
use Rattle.gate_bytes.proofs.Members.{Contains-head, Contains-rest}
use Rattle.gate_bytes.proofs.OrderLemmas.{first_failing_append, found_in_second, none_fails}
use Rattle.gate_tx.specs.Ids.{txid_of, wtxid_of}
use Rattle.gate_tx.specs.Tx.{Tx}
use Rattle.gate_rules.specs.declared.Denial.{Denial}
use Rattle.gate_submission.specs.Alone.{alone_rules}
use Rattle.gate_submission.specs.declared.Fate.{Fate}
use Rattle.gate_chain.specs.History.{History}
use Rattle.gate_chain.specs.Times.{tip_of}
use Rattle.gate_pool.specs.Pool.{Admitted, entry_by_txid, entry_by_wtxid, size_of}
use Rattle.gate_pool.specs.Counting.{entered_beside}
use Rattle.gate_pool.specs.Family.{ancestors_above, conflicts_of, descendants_of}
use Rattle.gate_admit.specs.declared.Attempt.TheVariants.{First}
use Rattle.gate_admit.specs.declared.Grant.{Grant}
use Rattle.gate_admit.specs.declared.limits.FamilyLimits.{FamilyLimits}
use Rattle.gate_admit.specs.Coins.{coins_of}
use Rattle.gate_admit.specs.Good.{IsSound}
use Rattle.gate_admit.specs.Limits.{carved_out, fits_families, grown, has_room, has_room_below, has_second_try, is_within, limit_rules, usual_limits}
use Rattle.gate_admit.specs.Policies.{Policy}
use Rattle.gate_admit.specs.Reports.{reported, report_rules, sigop_cost, vsize_of}
use Rattle.gate_admit.specs.Rules.{admission_rules, balance_rules, coin_rules, coin_value_rules, coins_value, decision_of, denied_or, fee_rules, final_rules, grant_of, lock_rules, outputs_value, pool_rules}
use Rattle.gate_admit.specs.Standing.{Standing}
use Rattle.gate_admit.specs.Submission.{admitted}
use Rattle.gate_admit.specs.Truc.{TrucHolds}
use Rattle.gate_admit.proofs.Entering.{StaysUnconnected, grant_sound, grant_truc}
use Rattle.gate_package.specs.declared.role.Role.TheVariants.{Member}
use Rattle.gate_package.specs.Coins.{coin_rules_beside}
use Rattle.gate_package.specs.Judging.{family_rules, half_rules, member_decision, member_grant, member_rules, payment_rules, pool_rules_as, rate_rules}
use Rattle.gate_package.specs.Packages.{course_behind, course_of, entries_behind, entry_as, fate_by, fate_unless_known, sibling_in}

-- ---- lists of rules, one behind another

neither : (o p : Option Denial) → option_or o p ≡ None → (o ≡ None) × (p ≡ None)
neither (Some denial) p h = absurd (cc)
neither None p h = (refl, h)

parts : (xs ys : List (Rule Denial)) → first_failing (xs ++ ys) ≡ None → (first_failing xs ≡ None) × (first_failing ys ≡ None)
parts xs ys h = neither (first_failing xs) (first_failing ys) (sym (first_failing_append xs ys) ∙ h)

both : (xs ys : List (Rule Denial)) → first_failing xs ≡ None → first_failing ys ≡ None → first_failing (xs ++ ys) ≡ None
both xs ys h k = found_in_second xs ys h ∙ k

all_pass : (rules : List (Rule Denial)) → NoneFails rules → first_failing rules ≡ None
all_pass [] h = refl
all_pass (rule ∷ rules) h = ap (λ b. if b then Some rule.0 else first_failing rules) h.0 ∙ all_pass rules h.1

-- ---- families: the first try alone is the smallest that A36 asks

all_weaker : {X : Type 0} (p q : X → Bool) → ((x : X) → p x ≡ true → q x ≡ true) → (xs : List X) → list_all p xs ≡ true → list_all q xs ≡ true
all_weaker p q step [] h = refl
all_weaker p q step (x ∷ xs) h = let halves = and_parts (p x) (list_all p xs) h in and_from _ _ (step x halves.0) (all_weaker p q step xs halves.1)

room_more : (limits : FamilyLimits) (more bytes vsize : ℕ) (family : List Admitted) → has_room limits vsize family ≡ true
    → has_room (record limits { descendants = limits.descendants + more; descendants_size = limits.descendants_size + bytes }) vsize family ≡ true
room_more limits more bytes vsize family h =
    let halves = and_parts (nat_le (length family + 1) limits.descendants) (nat_le (size_of family + vsize) limits.descendants_size) h in
    and_from (nat_le (length family + 1) (limits.descendants + more)) (nat_le (size_of family + vsize) (limits.descendants_size + bytes))
    (le-leb (length family + 1) (limits.descendants + more) (omega (arith, leb-true (length family + 1) limits.descendants halves.0)))
    (le-leb (size_of family + vsize) (limits.descendants_size + bytes) (omega (arith, leb-true (size_of family + vsize) limits.descendants_size halves.1)))

within_grown : (entries conflicts : List Admitted) (limits : FamilyLimits) (above : List Admitted) (vsize : ℕ)
    → is_within limits entries above vsize ≡ true → is_within (grown entries conflicts limits) entries above vsize ≡ true
within_grown entries [] limits above vsize h = h
within_grown entries (c ∷ []) limits above vsize h =
    let outer = and_parts (nat_le (length above + 1) limits.ancestors) ((length above == 0 || nat_le (size_of above + vsize) limits.ancestors_size) && list_all (has_room_below limits entries vsize) above) h in
    let inner = and_parts (length above == 0 || nat_le (size_of above + vsize) limits.ancestors_size) (list_all (has_room_below limits entries vsize) above) outer.1 in
    and_from _ _ outer.0 (and_from _ _ inner.0
    (all_weaker (has_room_below limits entries vsize) (has_room_below (grown entries (c ∷ []) limits) entries vsize)
    (λ a. room_more limits 1 (size_of (descendants_of entries (txid_of c.tx))) vsize (descendants_of entries (txid_of a.tx))) above inner.1))
within_grown entries (c ∷ d ∷ rest) limits above vsize h = h

pub first_try : (policy : Policy) (entries : List Admitted) (tx : Tx) (vsize : ℕ) → is_within (usual_limits policy) entries (ancestors_above entries tx.inputs) vsize ≡ true → fits_families policy entries tx vsize ≡ true
first_try policy entries tx vsize h =
    ap (λ b. b || (has_second_try tx vsize && is_within (carved_out (grown entries (conflicts_of entries tx) (usual_limits policy))) entries (ancestors_above entries tx.inputs) vsize))
    (within_grown entries (conflicts_of entries tx) (usual_limits policy) (ancestors_above entries tx.inputs) vsize h)

family_passes : (policy : Policy) (entries : List Admitted) (tx : Tx) (vsize : ℕ) → first_failing (family_rules Member policy entries tx vsize) ≡ None → first_failing (limit_rules First policy entries tx vsize) ≡ None
unfolding family_rules limit_rules
family_passes policy entries tx vsize h =
    let passes = none_fails (family_rules Member policy entries tx vsize) h in
    all_pass (limit_rules First policy entries tx vsize) (ap not (first_try policy entries tx vsize (not-false _ passes.0)), passes.1)

-- ---- coins behind none, and the fee of a member

coins_pass : (chain : History) (entries : List Admitted) (tx : Tx) → first_failing (coin_rules_beside chain [] entries tx) ≡ None → first_failing (coin_rules chain entries tx) ≡ None
unfolding coin_rules_beside coin_rules
coins_pass chain entries tx h = h

payment_passes : (policy : Policy) (tx : Tx) (floor fee vsize : ℕ) → first_failing (payment_rules Member policy tx floor fee vsize) ≡ None → first_failing (fee_rules policy tx floor fee vsize) ≡ None
unfolding payment_rules
payment_passes policy tx floor fee vsize h = h

-- ---- the whole order

pub member_passes : (max_rate : ℕ) (over : Standing) (tx : Tx) → first_failing (member_rules max_rate over tx) ≡ None → first_failing (admission_rules First over tx) ≡ None
unfolding member_rules half_rules pool_rules_as admission_rules
member_passes max_rate over tx h =
    let coins = coins_of over.chain over.entries tx.inputs in
    let answers = reported tx.inputs coins in
    let fee = coins_value coins - outputs_value tx in
    let vsize = vsize_of over.policy.sigop_size (sigop_cost answers tx.outputs) tx in
    let whole = parts (half_rules Member max_rate [] over tx) _ h in
    let alone = parts (alone_rules over.policy.standards tx) _ whole.0 in
    let final = parts (final_rules over.chain tx) _ alone.1 in
    let pool = parts (pool_rules over.policy over.entries tx) _ final.1 in
    let coin = parts (coin_rules_beside over.chain [] over.entries tx) _ pool.1 in
    let lock = parts (lock_rules over.chain coins tx) _ coin.1 in
    let value = parts (coin_value_rules (tip_of over.chain + 1) 0 coins) _ lock.1 in
    let balance = parts (balance_rules (coins_value coins) (outputs_value tx)) _ value.1 in
    let report = parts (report_rules over.policy answers fee tx) _ balance.1 in
    let payment = parts (payment_rules Member over.policy tx over.floor fee vsize) _ report.1 in
    let family = parts (family_rules Member over.policy over.entries tx vsize) (rate_rules max_rate fee vsize) payment.1 in
    both (alone_rules over.policy.standards tx) _ alone.0
    (both (final_rules over.chain tx) _ final.0
    (both (pool_rules over.policy over.entries tx) _ pool.0
    (both (coin_rules over.chain over.entries tx) _ (coins_pass over.chain over.entries tx coin.0)
    (both (lock_rules over.chain coins tx) _ lock.0
    (both (coin_value_rules (tip_of over.chain + 1) 0 coins) _ value.0
    (both (balance_rules (coins_value coins) (outputs_value tx)) _ balance.0
    (both (report_rules over.policy answers fee tx) _ report.0
    (both (fee_rules over.policy tx over.floor fee vsize) _ (payment_passes over.policy tx over.floor fee vsize payment.0)
    (both (limit_rules First over.policy over.entries tx vsize) _ (family_passes over.policy over.entries tx vsize family.0) whole.1)))))))))

pub member_decided : (max_rate : ℕ) (over : Standing) (tx : Tx) (grant : Grant) → member_decision max_rate over tx ≡ Ok grant → decision_of First over (Some tx) ≡ Ok grant
unfolding decision_of grant_of
member_decided max_rate over tx grant h = by (first_failing (member_rules max_rate over tx)) refl h
  where
    by : (found : Option Denial) → first_failing (member_rules max_rate over tx) ≡ found → denied_or found (member_grant over tx) ≡ Ok grant
        → denied_or (first_failing (admission_rules First over tx)) (grant_of First over tx) ≡ Ok grant
    by (Some denial) is k = cc
    by None is k = ap (λ o. denied_or o (grant_of First over tx)) (member_passes max_rate over tx is) ∙ k

-- ---- one member

-- what is granted would be granted as a submission
one_keeps : (Keeps : List Admitted → Type 0) (max_rate : ℕ) (over : Standing) (now : ℕ) (tx : Tx)
    → (first_failing (admission_rules First over tx) ≡ None → Keeps over.entries → Keeps (entered_beside over.entries (sibling_in over tx) (admitted tx (grant_of First over tx) now)))
    → (found : Option Denial) → first_failing (member_rules max_rate over tx) ≡ found → Keeps over.entries
    → Keeps (entries_behind over.entries (sibling_in over tx) (entry_as now tx (fate_by over.entries (sibling_in over tx) tx (denied_or found (member_grant over tx)))))
unfolding grant_of
one_keeps Keeps max_rate over now tx step (Some denial) is h = h
one_keeps Keeps max_rate over now tx step None is h = step (member_passes max_rate over tx is) h

-- what an entry has the id of changes nothing
unless_keeps : (Keeps : List Admitted → Type 0) (entries : List Admitted) (sibling : Option (List ℕ)) (now : ℕ) (tx : Tx) (fate : Fate) (same other : Option Admitted) → Keeps entries
    → Keeps (entries_behind entries sibling (entry_as now tx fate)) → Keeps (entries_behind entries sibling (entry_as now tx (fate_unless_known same other fate)))
unless_keeps Keeps entries sibling now tx fate (Some e) other h k = h
unless_keeps Keeps entries sibling now tx fate None (Some e) h k = h
unless_keeps Keeps entries sibling now tx fate None None h k = k

member_keeps : (Keeps : List Admitted → Type 0) (max_rate : ℕ) (over : Standing) (now : ℕ) (tx : Tx)
    → (first_failing (admission_rules First over tx) ≡ None → Keeps over.entries → Keeps (entered_beside over.entries (sibling_in over tx) (admitted tx (grant_of First over tx) now)))
    → Keeps over.entries → Keeps (course_behind max_rate over now tx)
member_keeps Keeps max_rate over now tx step h =
    unless_keeps Keeps over.entries (sibling_in over tx) now tx (fate_by over.entries (sibling_in over tx) tx (member_decision max_rate over tx))
    (entry_by_wtxid over.entries (wtxid_of tx)) (entry_by_txid over.entries (txid_of tx)) h
    (one_keeps Keeps max_rate over now tx step (first_failing (member_rules max_rate over tx)) refl h)

-- ---- all of them, one by one

-- the standing with these entries
abbrev pub among : Standing → List Admitted → Standing
among over entries = record over { entries = entries }

pub course_keeps : (Keeps : List Admitted → Type 0) (Told : Tx → Type 0) (max_rate : ℕ) (over : Standing) (now : ℕ)
    → ((entries : List Admitted) (tx : Tx) → Told tx → first_failing (admission_rules First (among over entries) tx) ≡ None → Keeps entries
    → Keeps (entered_beside entries (sibling_in (among over entries) tx) (admitted tx (grant_of First (among over entries) tx) now)))
    → (entries : List Admitted) (txs : List Tx) → ((tx : Tx) → Contains txs tx → Told tx) → Keeps entries → Keeps (course_of max_rate (among over entries) now txs).entries
unfolding course_of
course_keeps Keeps Told max_rate over now step entries [] told h = h
course_keeps Keeps Told max_rate over now step entries (tx ∷ txs) told h =
    course_keeps Keeps Told max_rate over now step (course_behind max_rate (among over entries) now tx) txs (λ t m. told t (Contains-rest tx txs t m))
    (member_keeps Keeps max_rate (among over entries) now tx (step entries tx (told tx (Contains-head tx txs))) h)

-- a member that is granted by itself, over whatever entries, is in no connected block
abbrev pub StaysNew : Standing → Tx → Type 0
StaysNew over tx = (entries : List Admitted) → StaysUnconnected (among over entries) (Some tx)

-- entries that are sound stay so, if no connected block has a member that is granted
pub course_sound : (max_rate : ℕ) (over : Standing) (now : ℕ) (txs : List Tx) → ((tx : Tx) → Contains txs tx → StaysNew over tx)
    → IsSound over.policy over.chain over.entries → IsSound over.policy over.chain (course_of max_rate over now txs).entries
course_sound max_rate over now txs new h =
    course_keeps (IsSound over.policy over.chain) (StaysNew over) max_rate over now (λ entries tx told passes sound. grant_sound (among over entries) tx now (told entries) sound passes) over.entries txs new h

-- so do small families of version 3, where that is standard
pub course_truc : (max_rate : ℕ) (over : Standing) (now : ℕ) (txs : List Tx) → over.policy.standards.truc ≡ true → ((tx : Tx) → Contains txs tx → StaysNew over tx)
    → IsSound over.policy over.chain over.entries × TrucHolds over.entries
    → (IsSound over.policy over.chain (course_of max_rate over now txs).entries × TrucHolds (course_of max_rate over now txs).entries)
course_truc max_rate over now txs on new h =
    course_keeps (λ entries. IsSound over.policy over.chain entries × TrucHolds entries) (StaysNew over) max_rate over now
    (λ entries tx told passes good. (grant_sound (among over entries) tx now (told entries) good.0 passes, grant_truc (among over entries) tx now (told entries) good.0 passes on good.1)) over.entries txs new h
