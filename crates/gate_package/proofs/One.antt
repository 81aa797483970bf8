-- A package of one that has the first try of A36, and of which A50 asks nothing, is its submission.
use Rattle.std.proofs.Common.{◌≡◌, ◌+◌, ℕ, suc, Bool, true, false, cond, not, ◌&&◌, ◌||◌, if◌then◌else◌, List, [], ◌∷◌, ◌++◌, length, Option, Some, None, Result, Ok, Err, refl, sym, ap, ◌∙◌, subst, append_assoc, arith}
use Rattle.std.specs.Prelude.{◌-◌, ◌==◌, is_none, is_some}
use Rattle.std.specs.List.{list_any}
use Rattle.std.specs.Option.{option_or}
use Rattle.std.specs.Cmp.Lexicographic.{bytes_decides}
use Rattle.std.proofs.lemmas.Bool.{cond-true, ne_eqb, true≢false}
use Rattle.gate_bytes.specs.Order.{Rule, first_failing}
use Rattle.gate_bytes.proofs.OrderLemmas.{first_failing_append, found_in_second}
use Rattle.gate_tx.specs.declared.TxIn.{TxIn}
use Rattle.gate_tx.specs.Ids.{txid_of, wtxid_of}
use Rattle.gate_tx.specs.Tx.{Tx}
use Rattle.gate_rules.specs.declared.Denial.{Denial}
use Rattle.gate_rules.specs.declared.Denial.TheVariants.{MempoolFull, SpendsConflicting, TooLongChain, TrucViolation}
use Rattle.gate_rules.specs.declared.PackageDenial.TheVariants.{LacksParents}
use Rattle.gate_submission.specs.Alone.{alone_rules}
use Rattle.gate_submission.specs.declared.Fate.{Fate}
use Rattle.gate_submission.specs.declared.Fate.TheVariants.{Denied}
use Rattle.gate_submission.specs.declared.PackageVerdict.TheVariants as verdicts
use Rattle.gate_submission.specs.PackageOutcomes.{has_left, left}
use Rattle.gate_chain.specs.History.{History}
use Rattle.gate_chain.specs.Times.{tip_of}
use Rattle.gate_pool.specs.Counting.{replaced_beside}
use Rattle.gate_pool.specs.Family.{ancestors_above, is_conflict}
use Rattle.gate_pool.specs.Pool.{Admitted, entry_by_txid, listing_of}
use Rattle.gate_admit.specs.declared.Attempt.TheVariants.{First}
use Rattle.gate_admit.specs.declared.Grant.{Grant}
use Rattle.gate_admit.specs.Coins.{coins_of}
use Rattle.gate_admit.specs.Limits.{is_within, limit_rules, usual_limits}
use Rattle.gate_admit.specs.Policies.{Policy, incremental_feerate}
use Rattle.gate_admit.specs.Reports.{reported, report_rules, sigop_cost, verdict_rules, vsize_of}
use Rattle.gate_admit.specs.Rules.{admission_rules, balance_rules, coin_rules, coin_value_rules, coins_value, decision_of, denied_or, fee_rules, final_rules, grant_of, lock_rules, outputs_value, pool_rules}
use Rattle.gate_admit.specs.Standing.{Standing}
use Rattle.gate_admit.specs.Submission.{entry_of, submit_of, submitted_by}
use Rattle.gate_admit.specs.Sweeping.{sweep_rules}
use Rattle.gate_admit.specs.Truc.{breaks_truc, sibling_of}
use Rattle.gate_rbf.specs.Replacing.{replacement_rules}
use Rattle.gate_admit.proofs.Granted.{granted}
use Rattle.gate_package.specs.declared.role.Role.TheVariants.{Member as AsMember}
use Rattle.gate_package.specs.Coins.{coin_rules_beside}
use Rattle.gate_package.specs.Judging.{family_rules, half_rules, member_decision, member_grant, member_rules, payment_rules, pool_rules_as, rate_rules}
use Rattle.gate_package.specs.Laws.{IsAs, IsPlain, PackageOfOne}
use Rattle.gate_package.specs.Packages.{Course, Packaged, concluded, course_of, entries_behind, entry_as, fate_by, fate_unless_known, has_failed, judged_from, judged_of, landed, member_with, packaged_of, sibling_in, unless_unfit}
use Rattle.gate_package.specs.Shapes.{shape_rules}
use Rattle.gate_package.proofs.Membership.{first_try}

-- ---- the order of a member is that of its submission

ahead : (xs vs ys zs us : List (Rule Denial)) → first_failing xs ≡ first_failing vs → first_failing (ys ++ zs) ≡ first_failing us → first_failing ((xs ++ ys) ++ zs) ≡ first_failing (vs ++ us)
ahead xs vs ys zs us h k =
    ap first_failing (append_assoc xs ys zs)
    ∙ (first_failing_append xs (ys ++ zs) ∙ (ap (λ o. option_or o (first_failing (ys ++ zs))) h ∙ (ap (option_or (first_failing vs)) k ∙ sym (first_failing_append vs us))))

same_coins : (chain : History) (entries : List Admitted) (tx : Tx) → first_failing (coin_rules_beside chain [] entries tx) ≡ first_failing (coin_rules chain entries tx)
unfolding coin_rules_beside coin_rules
same_coins chain entries tx = refl

same_payment : (policy : Policy) (tx : Tx) (floor fee vsize : ℕ) → first_failing (payment_rules AsMember policy tx floor fee vsize) ≡ first_failing (fee_rules policy tx floor fee vsize)
unfolding payment_rules
same_payment policy tx floor fee vsize = refl

same_families : (policy : Policy) (entries : List Admitted) (tx : Tx) (vsize : ℕ) → is_within (usual_limits policy) entries (ancestors_above entries tx.inputs) vsize ≡ true
    → first_failing (family_rules AsMember policy entries tx vsize) ≡ first_failing (limit_rules First policy entries tx vsize)
unfolding family_rules limit_rules
same_families policy entries tx vsize h =
    ap (λ b. if b then Some TooLongChain else if breaks_truc First policy entries tx vsize then Some TrucViolation else if list_any (is_conflict tx) (ancestors_above entries tx.inputs) then Some SpendsConflicting else None)
    (ap not h ∙ sym (ap not (first_try policy entries tx vsize h)))

same_order : (max_rate : ℕ) (over : Standing) (tx : Tx) → IsPlain max_rate over tx → first_failing (member_rules max_rate over tx) ≡ first_failing (admission_rules First over tx)
unfolding member_rules half_rules pool_rules_as admission_rules grant_of
same_order max_rate over tx plain =
    let coins = coins_of over.chain over.entries tx.inputs in
    let answers = reported tx.inputs coins in
    let fee = coins_value coins - outputs_value tx in
    let vsize = vsize_of over.policy.sigop_size (sigop_cost answers tx.outputs) tx in
    let rest : List (Rule Denial) =
    sweep_rules over.policy.standards over.entries tx
    ++ (replacement_rules (incremental_feerate over.policy) over.policy.parents over.entries (sibling_of First over.policy over.entries tx) tx fee vsize ++ verdict_rules over.verdicts (wtxid_of tx) 0 tx.inputs) in
    ahead (alone_rules over.policy.standards tx) (alone_rules over.policy.standards tx) _ _ _ refl
    (ahead (final_rules over.chain tx) (final_rules over.chain tx) _ _ _ refl
    (ahead (pool_rules over.policy over.entries tx) (pool_rules over.policy over.entries tx) _ _ _ refl
    (ahead (coin_rules_beside over.chain [] over.entries tx) (coin_rules over.chain over.entries tx) _ _ _ (same_coins over.chain over.entries tx)
    (ahead (lock_rules over.chain coins tx) (lock_rules over.chain coins tx) _ _ _ refl
    (ahead (coin_value_rules (tip_of over.chain + 1) 0 coins) (coin_value_rules (tip_of over.chain + 1) 0 coins) _ _ _ refl
    (ahead (balance_rules (coins_value coins) (outputs_value tx)) (balance_rules (coins_value coins) (outputs_value tx)) _ _ _ refl
    (ahead (report_rules over.policy answers fee tx) (report_rules over.policy answers fee tx) _ _ _ refl
    (ahead (payment_rules AsMember over.policy tx over.floor fee vsize) (fee_rules over.policy tx over.floor fee vsize) _ _ _ (same_payment over.policy tx over.floor fee vsize)
    (ahead (family_rules AsMember over.policy over.entries tx vsize) (limit_rules First over.policy over.entries tx vsize) (rate_rules max_rate fee vsize) _ _
    (same_families over.policy over.entries tx vsize plain.first_try) (found_in_second (rate_rules max_rate fee vsize) rest plain.rate))))))))))

same_decision : (max_rate : ℕ) (over : Standing) (tx : Tx) → IsPlain max_rate over tx → member_decision max_rate over tx ≡ decision_of First over (Some tx)
unfolding decision_of grant_of
same_decision max_rate over tx plain = ap (λ o. denied_or o (member_grant over tx)) (same_order max_rate over tx plain)

-- ---- the package

abbrev one_course : Standing → ℕ → Tx → Result Grant Denial → Course
one_course over now tx decision = record {
  members = member_with tx (fate_by over.entries (sibling_in over tx) tx decision) ∷ [];
  entries = entries_behind over.entries (sibling_in over tx) (entry_as now tx (fate_by over.entries (sibling_in over tx) tx decision));
}

course_is : (max_rate : ℕ) (over : Standing) (now : ℕ) (tx : Tx) → IsPlain max_rate over tx → course_of max_rate over now (tx ∷ []) ≡ one_course over now tx (decision_of First over (Some tx))
unfolding course_of
course_is max_rate over now tx plain =
    let sibling = sibling_in over tx in
    let made : Fate → Course = λ fate. record { members = member_with tx fate ∷ []; entries = entries_behind over.entries sibling (entry_as now tx fate) } in
    ap (λ o. made (fate_unless_known o (entry_by_txid over.entries (txid_of tx)) (fate_by over.entries sibling tx (member_decision max_rate over tx)))) plain.new_witness
    ∙ (ap (λ o. made (fate_unless_known None o (fate_by over.entries sibling tx (member_decision max_rate over tx)))) plain.new
    ∙ ap (λ d. made (fate_by over.entries sibling tx d)) (same_decision max_rate over tx plain))

-- the rules on a package of one with an input
has_input : (inputs : List TxIn) → list_any (λ x. true) inputs ≡ true → (length inputs == 0) ≡ false
has_input [] h = absurd (true≢false (sym h))
has_input (i ∷ inputs) h = ne_eqb (length (i ∷ inputs)) 0 (λ e. omega (arith, e))

fits_alone : (over : Standing) (tx : Tx) → list_any (λ x. true) tx.inputs ≡ true → first_failing (shape_rules over.chain over.policy (tx ∷ [])) ≡ None
unfolding shape_rules
fits_alone over tx h = rw (has_input tx.inputs h) (by over.policy.all_parents)
  where
    by : (b : Bool) → first_failing ((LacksParents, b && false) ∷ []) ≡ None
    by true = refl
    by false = refl

-- what becomes of it by its decision
landing : (over : Standing) (now budget : ℕ) (tx : Tx) → Result Grant Denial → Packaged
landing over now budget tx (Ok grant) = landed over now budget (concluded (one_course over now tx (Ok grant)) verdicts.Success)
landing over now budget tx (Err denial) = landed over now budget (concluded (one_course over now tx (Err denial)) verdicts.Failed)

judged_as_one : (max_rate : ℕ) (over : Standing) (now budget : ℕ) (tx : Tx) (decision : Result Grant Denial) → landed over now budget (judged_from max_rate over now (tx ∷ []) (one_course over now tx decision)) ≡ landing over now budget tx decision
unfolding landing
judged_as_one max_rate over now budget tx (Ok grant) = refl
judged_as_one max_rate over now budget tx (Err denial) = by (has_failed over.policy (tx ∷ []) (member_with tx (Denied denial) ∷ []))
  where
    by : (failed : Bool)
        → landed over now budget (if failed then concluded (one_course over now tx (Err denial)) verdicts.Failed else concluded (one_course over now tx (Err denial)) verdicts.Failed)
        ≡ landed over now budget (concluded (one_course over now tx (Err denial)) verdicts.Failed)
    by true = refl
    by false = refl

packaged_is : (max_rate : ℕ) (over : Standing) (tx : Tx) (now budget : ℕ) → IsPlain max_rate over tx → list_any (λ x. true) tx.inputs ≡ true
    → packaged_of max_rate over (tx ∷ []) now budget ≡ landing over now budget tx (decision_of First over (Some tx))
unfolding packaged_of judged_of
packaged_is max_rate over tx now budget plain some =
    ap (λ o. unless_unfit o over (landed over now budget (judged_from max_rate over now (tx ∷ []) (course_of max_rate over now (tx ∷ []))))) (fits_alone over tx some)
    ∙ (ap (λ c. landed over now budget (judged_from max_rate over now (tx ∷ []) c)) (course_is max_rate over now tx plain) ∙ judged_as_one max_rate over now budget tx (decision_of First over (Some tx)))

as_many : (entries : List Admitted) → length (listing_of entries) ≡ length entries
as_many [] = refl
as_many (e ∷ entries) = ap (λ n. suc n) (as_many entries)

-- ---- both outcomes

-- as many are replaced as the grant says
many_of : (over : Standing) (tx : Tx) (grant : Grant) → Ok grant ≡ decision_of First over (Some tx) → length (listing_of (replaced_beside over.entries (sibling_in over tx) tx)) ≡ grant.replaced
unfolding decision_of grant_of
many_of over tx grant is =
    as_many (replaced_beside over.entries (sibling_in over tx) tx) ∙ ap (λ (g : Grant). g.replaced) (granted (first_failing (admission_rules First over tx)) (grant_of First over tx) grant (sym is)).1

stays_or_goes : (over : Standing) (tx : Tx) (grant : Grant) (found : Option Admitted) → length (listing_of (replaced_beside over.entries (sibling_in over tx) tx)) ≡ grant.replaced
    → IsAs (if is_some found then Ok grant else Err MempoolFull) (left (cond (is_none found) (txid_of tx ∷ []) []) (member_with tx (fate_by over.entries (sibling_in over tx) tx (Ok grant))) ∷ [])
stays_or_goes over tx grant (Some e) many = (listing_of (replaced_beside over.entries (sibling_in over tx) tx), tx, refl, many)
stays_or_goes over tx grant None many = (
  tx,
  ap (λ m. m ∷ [])
      (cond-true (has_left (txid_of tx ∷ []) (member_with tx (fate_by over.entries (sibling_in over tx) tx (Ok grant)))) (member_with tx (Denied MempoolFull)) (member_with tx (fate_by over.entries (sibling_in over tx) tx (Ok grant)))
      (ap (λ b. b || false) ((bytes_decides (txid_of tx) (txid_of tx)).1 refl))),
)

decided_as : (over : Standing) (now budget : ℕ) (tx : Tx) (decision : Result Grant Denial) → decision ≡ decision_of First over (Some tx)
    → IsAs (submitted_by over (Some tx) now budget decision).decision (landing over now budget tx decision).outcome.members
unfolding landing landed entry_of
decided_as over now budget tx (Err denial) is = (tx, refl)
decided_as over now budget tx (Ok grant) is = stays_or_goes over tx grant (entry_by_txid (landing over now budget tx (Ok grant)).entries (txid_of tx)) (many_of over tx grant is)

entries_as : (over : Standing) (now budget : ℕ) (tx : Tx) (grant : Grant) → (landing over now budget tx (Ok grant)).entries ≡ (submitted_by over (Some tx) now budget (Ok grant)).entries
unfolding landing landed entry_of
entries_as over now budget tx grant = refl

pub of_one : PackageOfOne
unfolding submit_of
of_one = record {
  decision = λ max_rate over tx now budget plain some.
      subst (λ (p : Packaged). IsAs (submit_of over (Some tx) now budget).decision p.outcome.members) (sym (packaged_is max_rate over tx now budget plain some))
      (decided_as over now budget tx (decision_of First over (Some tx)) refl);
  entries = λ max_rate over tx now budget grant plain some is.
      ap (λ (p : Packaged). p.entries) (packaged_is max_rate over tx now budget plain some)
      ∙ (ap (λ d. (landing over now budget tx d).entries) is ∙ (entries_as over now budget tx grant ∙ ap (λ d. (submitted_by over (Some tx) now budget d).entries) (sym is)));
}
