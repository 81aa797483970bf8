-- A package that is a success is known when it is submitted again, and changes nothing.
use Rattle.std.proofs.Common.{◌≡◌, ◌+◌, ℕ, suc, Bool, true, false, cond, ◌&&◌, ◌||◌, if◌then◌else◌, List, [], ◌∷◌, ◌++◌, length, map, Option, Some, None, Result, Ok, Err, refl, sym, ap, ◌∙◌, subst, arith, ⊎_elim}
use Rattle.std.specs.Prelude.{◌==◌, nat_le, Contains, IfOk, filter, is_none}
use Rattle.std.specs.List.{All, list_any}
use Rattle.std.specs.Str.{bytes_eq}
use Rattle.std.specs.Cmp.Lexicographic.{bytes_decides}
use Rattle.std.proofs.lemmas.Bool.{cond-false, cond-true, eqb-true, false_from_ne_true, le-leb, or_parts, true≢false}
use Rattle.std.proofs.lemmas.List.Elements.{All-cons, All-contains, All-nil}
use Rattle.std.proofs.lemmas.List.Sums.{sum_by-cons}
use Rattle.gate_bytes.specs.Order.{first_failing}
use Rattle.gate_bytes.proofs.Members.{Contains-cons_cases, Contains-head, Contains-rest, list_any_of, not_in_none}
use Rattle.gate_tx.specs.Ids.{txid_of, wtxid_of}
use Rattle.gate_tx.specs.Tx.{Tx}
use Rattle.gate_rules.specs.declared.Denial.{Denial}
use Rattle.gate_rules.specs.declared.Denial.TheVariants.{MempoolFull}
use Rattle.gate_rules.specs.declared.PackageDenial.{PackageDenial}
use Rattle.gate_submission.specs.declared.Fate.{Fate}
use Rattle.gate_submission.specs.declared.Fate.TheVariants.{Taken, Known, OtherWitness, Denied}
use Rattle.gate_submission.specs.declared.Member.{Member}
use Rattle.gate_submission.specs.declared.PackageOutcome.{PackageOutcome}
use Rattle.gate_submission.specs.declared.PackageVerdict.TheVariants as verdicts
use Rattle.gate_submission.specs.PackageOutcomes.{has_left, is_held, is_of_pool, left, one_left, settled}
use Rattle.gate_pool.specs.Pool.{Admitted, entry_by_txid, entry_by_wtxid, listing_of, size_of}
use Rattle.gate_pool.proofs.Entries.{Contains-from_map, Contains-map}
use Rattle.gate_pool.proofs.Walking.{Contains-filter, Contains-from_filter}
use Rattle.gate_trim.specs.Expiry.{expired}
use Rattle.gate_trim.specs.Trimming.{Trimmed, trim_of}
use Rattle.gate_trim.proofs.Trimmings.{trim_ends, trim_within}
use Rattle.gate_admit.specs.Standing.{Standing}
use Rattle.gate_admit.proofs.Lists.{none_pass}
use Rattle.gate_diagram.specs.declared.Price.{Price}
use Rattle.gate_package.specs.declared.role.Role.TheVariants.{Together}
use Rattle.gate_package.specs.declared.together.DeniedOne.{DeniedOne}
use Rattle.gate_package.specs.declared.together.Refusal.{Refusal}
use Rattle.gate_package.specs.Judging.{fee_beside, half_rules, member_decision, vsize_beside}
use Rattle.gate_package.specs.Kinship.{breaks_together}
use Rattle.gate_package.specs.Laws.{KnownAgain, is_known}
use Rattle.gate_package.specs.Packages.{Course, Judged, concluded, course_behind, course_of, denied_count, denied_of, entries_behind, entry_as, fate_by, fate_of, fate_unless_known, gone_from, granted, has_failed, held_txids, is_denial, is_denied, judged_from, judged_of, landed, landed_as, member_with, Packaged, packaged_of, reconsidered_as, reconsidered_by, sibling_in, unless_unfit}
use Rattle.gate_diagram.specs.Prices.{price_sum_fee, price_sum_size}
use Rattle.gate_package.specs.Shapes.{shape_rules}
use Rattle.gate_rivals.specs.Rivals.{replaced_together}
use Rattle.gate_package.specs.Together.{all_checked, doubted_place, half_or, halves_of, passes_limits, priced_refusal, refusal_of, refused_by_dust, refused_by_price, refused_by_rule, refused_by_verdict, replacing_denial, together_of, unless_refused, unpaid, unswept_place, with_price}
use Rattle.gate_package.proofs.AllOrNone.{together_one_each}

-- ---- the members are those of the transactions

-- a member for each transaction, with its txid
abbrev AreOf : List Tx → List Member → Type 0
AreOf [] [] = Unit {0}
AreOf [] (m ∷ members) = ⊥
AreOf (tx ∷ txs) [] = ⊥
AreOf (tx ∷ txs) (m ∷ members) = (m.txid ≡ txid_of tx) × AreOf txs members

-- each member is in the pool
abbrev AllHeld : List Member → Type 0
AllHeld [] = Unit {0}
AllHeld (m ∷ members) = (is_held m ≡ true) × AllHeld members

course_are : (max_rate : ℕ) (over : Standing) (now : ℕ) (txs : List Tx) → AreOf txs (course_of max_rate over now txs).members
unfolding course_of
course_are max_rate over now [] = tt
course_are max_rate over now (tx ∷ txs) = (refl, course_are max_rate (record over { entries = course_behind max_rate over now tx }) now txs)

held_unless_denied : (fate : Fate) → is_denial fate ≡ false → is_of_pool fate ≡ true
held_unless_denied (Taken fee vsize together replaced) h = refl
held_unless_denied (Known fee vsize) h = refl
held_unless_denied (OtherWitness wtxid) h = refl
held_unless_denied (Denied denial) h = sym h

none_denied : (members : List Member) → list_any is_denied members ≡ false → AllHeld members
none_denied [] h = tt
none_denied (m ∷ members) h = let parts = or_parts (is_denied m) (list_any is_denied members) h in (held_unless_denied m.fate parts.0, none_denied members parts.1)

none_counted : (members : List Member) → denied_count members ≡ 0 → list_any is_denied members ≡ false
none_counted [] h = refl
none_counted (m ∷ members) h = by (is_denied m) (sym (sum_by-cons (λ (x : Member). cond (is_denied x) 1 0) m members) ∙ h) (none_counted members)
  where
    by : (b : Bool) → (cond b 1 0 + denied_count members) ≡ 0 → (denied_count members ≡ 0 → list_any is_denied members ≡ false) → (b || list_any is_denied members) ≡ false
    by true k ih = absurd (omega (arith, k))
    by false k ih = ih (omega (arith, k))

-- those that are denied are granted where there is a price for each
granted_held : (replaced : List (List ℕ)) (txs : List Tx) (members : List Member) (prices : List Price) → AreOf txs members → length prices ≡ length (denied_of txs members) → AllHeld (granted replaced prices members) × AreOf txs (granted replaced prices members)
granted_held replaced [] [] prices are many = (tt, tt)
granted_held replaced [] (m ∷ members) prices are many = absurd are
granted_held replaced (tx ∷ txs) [] prices are many = absurd are
granted_held replaced (tx ∷ txs) (m ∷ members) [] are many = by (is_denied m) refl many (granted_held replaced txs members [] are.1)
  where
    by : (b : Bool) → is_denied m ≡ b → 0 ≡ length (cond b (tx ∷ denied_of txs members) (denied_of txs members)) → (0 ≡ length (denied_of txs members) → AllHeld (granted replaced [] members) × AreOf txs (granted replaced [] members))
        → AllHeld (m ∷ granted replaced [] members) × AreOf (tx ∷ txs) (m ∷ granted replaced [] members)
    by true is k ih = absurd (omega (arith, k))
    by false is k ih = let rest = ih k in ((held_unless_denied m.fate is, rest.0), (are.0, rest.1))
granted_held replaced (tx ∷ txs) (m ∷ members) (price ∷ prices) are many =
    by (is_denied m) refl many (granted_held [] txs members prices are.1) (granted_held replaced txs members (price ∷ prices) are.1)
  where
    by : (b : Bool) → is_denied m ≡ b → suc (length prices) ≡ length (cond b (tx ∷ denied_of txs members) (denied_of txs members))
        → (length prices ≡ length (denied_of txs members) → AllHeld (granted [] prices members) × AreOf txs (granted [] prices members))
        → (suc (length prices) ≡ length (denied_of txs members) → AllHeld (granted replaced (price ∷ prices) members) × AreOf txs (granted replaced (price ∷ prices) members))
        → AllHeld (cond b (record m { fate = Taken price.fee price.vsize true replaced } ∷ granted [] prices members) (m ∷ granted replaced (price ∷ prices) members))
        × AreOf (tx ∷ txs) (cond b (record m { fate = Taken price.fee price.vsize true replaced } ∷ granted [] prices members) (m ∷ granted replaced (price ∷ prices) members))
    by true is k ih jh = let rest = ih (omega (arith, k)) in ((refl, rest.0), (are.0, rest.1))
    by false is k ih jh = let rest = jh k in ((held_unless_denied m.fate is, rest.0), (are.0, rest.1))

-- ---- what is refused is no success

NoSuccess : Option Refusal → Type 0
NoSuccess None = Unit {0}
NoSuccess (Some refusal) = refusal.verdict ≡ verdicts.Success → ⊥

FailsOr : Result (List Price) Refusal → Type 0
FailsOr (Ok prices) = Unit {0}
FailsOr (Err refusal) = refusal.verdict ≡ verdicts.Success → ⊥

half_fails : (place : ℕ) (price : Price) (found : Option Denial) (others : Result (List Price) Refusal) → FailsOr others → FailsOr (half_or place found (with_price price others))
unfolding FailsOr
half_fails place price (Some denial) others h = λ e. cc
half_fails place price None (Ok prices) h = tt
half_fails place price None (Err refusal) h = h

halves_fail : (max_rate : ℕ) (over : Standing) (before : List Tx) (place : ℕ) (txs : List Tx) → FailsOr (halves_of max_rate over before place txs)
unfolding FailsOr
halves_fail max_rate over before place [] = tt
halves_fail max_rate over before place (tx ∷ txs) =
    half_fails place (record { fee = fee_beside before over tx; vsize = vsize_beside before over tx }) (first_failing (half_rules Together max_rate before over tx)) (halves_of max_rate over (before ++ tx ∷ []) (place + 1) txs)
    (halves_fail max_rate over (before ++ tx ∷ []) (place + 1) txs)

doubt_fails : (one : Option DeniedOne) → NoSuccess (refused_by_verdict one)
unfolding NoSuccess
doubt_fails None = tt
doubt_fails (Some one) = λ e. cc

dust_fails : (one : Option DeniedOne) (others : Option Refusal) → NoSuccess others → NoSuccess (refused_by_dust one others)
unfolding NoSuccess
dust_fails None others h = h
dust_fails (Some one) others h = λ e. cc

price_fails : (txs : List Tx) (found : Option Denial) (others : Option Refusal) → NoSuccess others → NoSuccess (refused_by_price txs found others)
unfolding NoSuccess
price_fails txs None others h = h
price_fails txs (Some denial) others h = λ e. cc

rule_fails : (b : Bool) (denial : PackageDenial) (others : Option Refusal) → NoSuccess others → NoSuccess (if b then Some (record { verdict = verdicts.Denied denial; member = None }) else others)
unfolding NoSuccess
rule_fails true denial others h = λ e. cc
rule_fails false denial others h = h

denial_fails : (found : Option PackageDenial) (others : Option Refusal) → NoSuccess others → NoSuccess (refused_by_rule found others)
unfolding NoSuccess
denial_fails None others h = h
denial_fails (Some denial) others h = λ e. cc

refusal_fails : (over : Standing) (txs : List Tx) (prices : List Price) → NoSuccess (refusal_of over txs prices)
unfolding refusal_of priced_refusal
refusal_fails over txs prices =
    rule_fails (breaks_together over.policy over.entries txs prices) _ _
    (price_fails txs (unpaid over.policy over.floor (price_sum_fee prices) (price_sum_size prices)) _
    (rule_fails (passes_limits over.policy over.entries txs (price_sum_size prices)) _ _
    (denial_fails (replacing_denial over.policy over.entries txs prices) _
    (dust_fails (unswept_place over.policy.standards txs over.entries 0 txs) (refused_by_verdict (doubted_place over.verdicts 0 txs)) (doubt_fails (doubted_place over.verdicts 0 txs))))))

together_fails : (max_rate : ℕ) (over : Standing) (txs : List Tx) → FailsOr (together_of max_rate over txs)
unfolding together_of FailsOr NoSuccess
together_fails max_rate over txs = by (halves_of max_rate over [] 0 txs) (halves_fail max_rate over [] 0 txs)
  where
    or_prices : (refusal : Option Refusal) (prices : List Price) → NoSuccess refusal → FailsOr (unless_refused refusal prices)
    or_prices None prices h = tt
    or_prices (Some refusal) prices h = h

    by : (found : Result (List Price) Refusal) → FailsOr found → FailsOr (all_checked over txs found)
    by (Ok prices) h = or_prices (refusal_of over txs prices) prices (refusal_fails over txs prices)
    by (Err refusal) h = h

-- ---- a success holds all members

abbrev Holds : List Tx → Judged → Type 0
Holds txs judged = judged.outcome.verdict ≡ verdicts.Success → AllHeld judged.outcome.members × AreOf txs judged.outcome.members

reconsidered_holds : (max_rate : ℕ) (over : Standing) (now : ℕ) (txs : List Tx) (members : List Member) → AreOf txs members → Holds txs (reconsidered_by max_rate over now members (denied_of txs members))
unfolding FailsOr
reconsidered_holds max_rate over now txs members are =
    by (together_of max_rate over (denied_of txs members)) (together_one_each max_rate over (denied_of txs members)) (together_fails max_rate over (denied_of txs members))
  where
    by : (found : Result (List Price) Refusal) → IfOk found (λ prices. length prices ≡ length (denied_of txs members)) → FailsOr found → Holds txs (reconsidered_as over.entries now members (denied_of txs members) found)
    by (Ok prices) many fails = λ e. granted_held (listing_of (replaced_together over.entries (denied_of txs members))) txs members prices are many
    by (Err refusal) many fails = λ e. absurd (fails e)

judged_holds : (max_rate : ℕ) (over : Standing) (now : ℕ) (txs : List Tx) (course : Course) → AreOf txs course.members → Holds txs (judged_from max_rate over now txs course)
judged_holds max_rate over now txs course are = by (denied_count course.members == 0) refl (has_failed over.policy txs course.members) (nat_le (denied_count course.members) 1)
  where
    by : (none : Bool) → (denied_count course.members == 0) ≡ none → (failed few : Bool)
        → Holds txs (if none then concluded course verdicts.Success else if failed then concluded course verdicts.Failed else if few then concluded course verdicts.Failed
        else reconsidered_by max_rate (record over { entries = course.entries }) now course.members (denied_of txs course.members))
    by true is failed few = λ e. (none_denied course.members (none_counted course.members (eqb-true (denied_count course.members) 0 is)), are)
    by false is true few = λ e. absurd (cc)
    by false is false true = λ e. absurd (cc)
    by false is false false = reconsidered_holds max_rate (record over { entries = course.entries }) now txs course.members are

-- ---- no member is gone

settled_success : (gone : List (List ℕ)) (o : PackageOutcome) → (settled gone o).verdict ≡ verdicts.Success → (one_left gone o.members ≡ false) × (o.verdict ≡ verdicts.Success)
settled_success gone o h = by (one_left gone o.members) h
  where
    by : (b : Bool) → (if b then verdicts.Failed else o.verdict) ≡ verdicts.Success → (b ≡ false) × (o.verdict ≡ verdicts.Success)
    by true k = absurd (cc)
    by false k = (refl, k)

-- the entries have each of the transactions
abbrev AllThere : List Admitted → List Tx → Type 0
AllThere entries txs = (tx : Tx) → Contains txs tx → is_none (entry_by_txid entries (txid_of tx)) ≡ false

-- the member of a transaction
record MemberOf (members : List Member) (tx : Tx) : Type 0 where
  pub member : Member
  pub among : Contains members member
  pub held : is_held member ≡ true
  pub id : member.txid ≡ txid_of tx

member_of : (txs : List Tx) (members : List Member) → AllHeld members → AreOf txs members → (tx : Tx) → Contains txs tx → MemberOf members tx
member_of [] members held are tx c = not_in_none tx c
member_of (first ∷ txs) [] held are tx c = absurd are
member_of (first ∷ txs) (m ∷ members) held are tx c =
    ⊎_elim (λ (same : first ≡ tx). record { member = m; among = Contains-head m members; held = held.0; id = are.0 ∙ ap txid_of same })
    (λ (k : Contains txs tx). let w = member_of txs members held.1 are.1 tx k in record { member = w.member; among = Contains-rest m members w.member w.among; held = w.held; id = w.id })
    (Contains-cons_cases first txs tx c)

all_there : (entries : List Admitted) (txs : List Tx) (members : List Member) → AllHeld members → AreOf txs members → one_left (gone_from entries (held_txids members)) members ≡ false → AllThere entries txs
all_there entries txs members held are stay tx c =
    let w = member_of txs members held are tx c in
    let gone = gone_from entries (held_txids members) in
    false_from_ne_true _ (λ none.
    let out : Contains gone w.member.txid =
    Contains-filter (λ (txid : List ℕ). is_none (entry_by_txid entries txid)) (held_txids members) w.member.txid
    (Contains-map (λ (m : Member). m.txid) (filter is_held members) w.member (Contains-filter is_held members w.member w.among w.held))
    (subst (λ (id : List ℕ). is_none (entry_by_txid entries id) ≡ true) (sym w.id) none) in
    let seen : list_any (λ (txid : List ℕ). bytes_eq txid w.member.txid) gone ≡ true = list_any_of (λ (txid : List ℕ). bytes_eq txid w.member.txid) gone w.member.txid out ((bytes_decides w.member.txid w.member.txid).1 refl) in
    let gone_too : has_left gone w.member ≡ true = ap (λ b. b && list_any (λ (txid : List ℕ). bytes_eq txid w.member.txid) gone) w.held ∙ seen in
    true≢false (sym gone_too ∙ All-contains (λ (m : Member). has_left gone m ≡ false) members w.member (none_pass (has_left gone) members stay) w.among))

-- ---- the package again

known_fate : (same other : Option Admitted) (fate : Fate) (entries : List Admitted) (sibling : Option (List ℕ)) (now : ℕ) (tx : Tx) → is_none other ≡ false
    → is_known (fate_unless_known same other fate) × (entries_behind entries sibling (entry_as now tx (fate_unless_known same other fate)) ≡ entries) × (is_denial (fate_unless_known same other fate) ≡ false)
known_fate (Some e) other fate entries sibling now tx h = (tt, refl, refl)
known_fate None (Some e) fate entries sibling now tx h = (tt, refl, refl)
known_fate None None fate entries sibling now tx h = absurd (true≢false h)

record AllKnown (entries : List Admitted) (course : Course) : Type 0 where
  pub same : course.entries ≡ entries
  pub known : All (λ (m : Member). is_known m.fate) course.members
  pub none : list_any is_denied course.members ≡ false

known_course : (max_rate : ℕ) (over : Standing) (now : ℕ) (txs : List Tx) → AllThere over.entries txs → AllKnown over.entries (course_of max_rate over now txs)
unfolding course_of
known_course max_rate over now [] there = record { same = refl; known = All-nil (λ (m : Member). is_known m.fate); none = refl }
known_course max_rate over now (tx ∷ txs) there =
    let first =
    known_fate (entry_by_wtxid over.entries (wtxid_of tx)) (entry_by_txid over.entries (txid_of tx)) (fate_by over.entries (sibling_in over tx) tx (member_decision max_rate over tx)) over.entries (sibling_in over tx) now tx (there tx (Contains-head tx txs)) in
    let next : Standing = record over { entries = course_behind max_rate over now tx } in
    let rest = known_course max_rate next now txs (λ t c. subst (λ (l : List Admitted). is_none (entry_by_txid l (txid_of t)) ≡ false) (sym first.1) (there t (Contains-rest tx txs t c))) in
    record {
      same = rest.same ∙ first.1;
      known = All-cons (λ (m : Member). is_known m.fate) (member_with tx (fate_of max_rate over tx)) (course_of max_rate next now txs).members first.0 rest.known;
      none = ap (λ b. b || list_any is_denied (course_of max_rate next now txs).members) first.2 ∙ rest.none;
    }

counted_none : (members : List Member) → list_any is_denied members ≡ false → denied_count members ≡ 0
counted_none [] h = refl
counted_none (m ∷ members) h = sum_by-cons (λ (x : Member). cond (is_denied x) 1 0) m members ∙ by (is_denied m) h (counted_none members)
  where
    by : (b : Bool) → (b || list_any is_denied members) ≡ false → (list_any is_denied members ≡ false → denied_count members ≡ 0) → (cond b 1 0 + denied_count members) ≡ 0
    by true k ih = absurd (true≢false k)
    by false k ih = omega (arith, ih k)

known_judged : (max_rate : ℕ) (over : Standing) (now : ℕ) (txs : List Tx) (course : Course) → list_any is_denied course.members ≡ false → judged_from max_rate over now txs course ≡ concluded course verdicts.Success
known_judged max_rate over now txs course h = cond-true (denied_count course.members == 0) (concluded course verdicts.Success) _ (ap (λ n. n == 0) (counted_none course.members h))

-- no member of them is gone
there_member : (entries : List Admitted) (txs : List Tx) (members : List Member) → AreOf txs members → AllThere entries txs → (m : Member) → Contains members m → is_none (entry_by_txid entries m.txid) ≡ false
there_member entries [] [] are there m c = not_in_none m c
there_member entries [] (one ∷ members) are there m c = absurd are
there_member entries (tx ∷ txs) [] are there m c = absurd are
there_member entries (tx ∷ txs) (one ∷ members) are there m c =
    ⊎_elim
    (λ (same : one ≡ m). subst (λ (x : Member). is_none (entry_by_txid entries x.txid) ≡ false) same (subst (λ (id : List ℕ). is_none (entry_by_txid entries id) ≡ false) (sym are.0) (there tx (Contains-head tx txs))))
    (λ (k : Contains members m). there_member entries txs members are.1 (λ t d. there t (Contains-rest tx txs t d)) m k)
    (Contains-cons_cases one members m c)

filter_none : {X : Type 0} (p : X → Bool) (xs : List X) → ((x : X) → Contains xs x → p x ≡ false) → filter p xs ≡ []
filter_none p [] h = refl
filter_none p (x ∷ xs) h = cond-false (p x) (x ∷ filter p xs) (filter p xs) (h x (Contains-head x xs)) ∙ filter_none p xs (λ y c. h y (Contains-rest x xs y c))

none_gone : (entries : List Admitted) (txs : List Tx) (members : List Member) → AreOf txs members → AllThere entries txs → gone_from entries (held_txids members) ≡ []
none_gone entries txs members are there =
    filter_none (λ (txid : List ℕ). is_none (entry_by_txid entries txid)) (held_txids members) (λ txid c.
    let w = Contains-from_map (λ (m : Member). m.txid) (filter is_held members) txid c in
    subst (λ (id : List ℕ). is_none (entry_by_txid entries id) ≡ false) w.is (there_member entries txs members are there w.item (Contains-from_filter is_held members w.item w.among)))

-- without entries that left, the outcome is settled as it is
leaves_none : (m : Member) → has_left [] m ≡ false
leaves_none m = by (is_held m)
  where
    by : (b : Bool) → (b && false) ≡ false
    by true = refl
    by false = refl

no_left : (members : List Member) → one_left [] members ≡ false
no_left [] = refl
no_left (m ∷ members) = ap (λ b. b || one_left [] members) (leaves_none m) ∙ no_left members

same_members : (members : List Member) → map (left []) members ≡ members
same_members [] = refl
same_members (m ∷ members) = ap (λ l. l ∷ map (left []) members) (cond-false (has_left [] m) (record m { fate = Denied MempoolFull }) m (leaves_none m)) ∙ ap (λ l. m ∷ l) (same_members members)

-- what is known again
record IsKnown (entries : List Admitted) (floor : ℕ) (p : Packaged) : Type 0 where
  pub verdict : p.outcome.verdict ≡ verdicts.Success
  pub entries_same : p.entries ≡ entries
  pub floor_same : p.floor ≡ floor
  pub known : All (λ (m : Member). is_known m.fate) p.outcome.members

settled_known : (members : List Member) (gone : List (List ℕ)) (entries : List Admitted) (floor : ℕ) → gone ≡ [] → All (λ (m : Member). is_known m.fate) members
    → IsKnown entries floor (record { outcome = settled gone (record { verdict = verdicts.Success; members = members; together = None }); entries = entries; floor = floor })
settled_known members gone entries floor none known =
    let P : List (List ℕ) → Type 0 = λ g. IsKnown entries floor (record { outcome = settled g (record { verdict = verdicts.Success; members = members; together = None }); entries = entries; floor = floor }) in
    subst P (sym none)
    (record {
      verdict = cond-false (one_left [] members) verdicts.Failed verdicts.Success (no_left members);
      entries_same = refl;
      floor_same = refl;
      known = subst (All (λ (m : Member). is_known m.fate)) (sym (same_members members)) known;
    })

landed_again : (max_rate : ℕ) (over : Standing) (txs : List Tx) (now later budget : ℕ) (judged : Judged) → Holds txs judged → (landed over now budget judged).outcome.verdict ≡ verdicts.Success
    → expired over.policy.stay later (landed over now budget judged).entries ≡ (landed over now budget judged).entries
    → let fit = landed over now budget judged in
    let next : Standing = record over { entries = fit.entries; floor = fit.floor } in
    IsKnown fit.entries fit.floor (landed next later budget (judged_of max_rate next later txs))
unfolding landed judged_of
landed_again max_rate over txs now later budget judged holds success young =
    let t = trim_of over.policy.incremental_rate budget (expired over.policy.stay now judged.entries) over.floor in
    let next : Standing = record over { entries = t.entries; floor = t.floor } in
    let calm = settled_success (gone_from t.entries (held_txids judged.outcome.members)) judged.outcome success in
    let held = holds calm.1 in
    let there = all_there t.entries txs judged.outcome.members held.0 held.1 calm.0 in
    let course = course_of max_rate next later txs in
    let known = known_course max_rate next later txs there in
    let same_left : expired over.policy.stay later course.entries ≡ t.entries = ap (expired over.policy.stay later) known.same ∙ young in
    let trims : trim_of over.policy.incremental_rate budget (expired over.policy.stay later course.entries) t.floor ≡ record { entries = t.entries; floor = t.floor } =
    ap (λ l. trim_of over.policy.incremental_rate budget l t.floor) same_left
    ∙ trim_ends over.policy.incremental_rate budget t.entries t.floor (le-leb (size_of t.entries) budget (trim_within over.policy.incremental_rate budget (expired over.policy.stay now judged.entries) over.floor)) in
    let P : Judged → Type 0 = λ j. IsKnown t.entries t.floor (landed_as j (trim_of over.policy.incremental_rate budget (expired over.policy.stay later j.entries) t.floor)) in
    subst P (sym (known_judged max_rate next later txs course known.none))
    (subst (λ (u : Trimmed). IsKnown t.entries t.floor (landed_as (concluded course verdicts.Success) u)) (sym trims)
    (settled_known course.members (gone_from t.entries (held_txids course.members)) t.entries t.floor (none_gone t.entries txs course.members (course_are max_rate next later txs) there) known.known))

pub again : KnownAgain
unfolding packaged_of judged_of
again max_rate over txs now later budget = by (first_failing (shape_rules over.chain over.policy txs))
  where
    by : (found : Option PackageDenial)
        → let after = unless_unfit found over (landed over now budget (judged_of max_rate over now txs)) in
        let next : Standing = record over { entries = after.entries; floor = after.floor } in
        let p = unless_unfit found next (landed next later budget (judged_of max_rate next later txs)) in
        after.outcome.verdict ≡ verdicts.Success → expired over.policy.stay later after.entries ≡ after.entries
        → (p.outcome.verdict ≡ verdicts.Success) × (p.entries ≡ after.entries) × (p.floor ≡ after.floor) × All (λ (m : Member). is_known m.fate) p.outcome.members
    by (Some denial) success young = absurd (cc)
    by None success young =
        let k =
        landed_again max_rate over txs now later budget (judged_of max_rate over now txs) (judged_holds max_rate over now txs (course_of max_rate over now txs) (course_are max_rate over now txs)) success young in
        (k.verdict, k.entries_same, k.floor_same, k.known)
