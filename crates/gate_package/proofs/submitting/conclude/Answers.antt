use Rattle.std.proofs.Common.{◌≡◌, ◌++◌, List, Result, Ok, Err, sym, ap, ◌∙◌, ⊎_elim, inl, inr}
use Rattle.std.specs.Prelude.{IfOk}
use Rattle.gate_submission.specs.declared.Member.{Member}
use Rattle.gate_admit.specs.Lending.{lent_with}
use Rattle.gate_package.specs.declared.submitting.Conclusion.{Conclusion}
use Rattle.gate_package.specs.Packages.{course_of, denied_count, denied_of, has_failed, judged_as, judged_of, reconsidered_by}
use Rattle.gate_package.proofs.Concluding.{all_fail, all_taken, judged_again}
use Rattle.gate_package.proofs.submitting.conclude.Goals as goal

joined : {X E J : Type 0} (r : Result X E) (made : X → J) (a b : J) → a ≡ b → IfOk r (λ x. made x ≡ a) → IfOk r (λ x. made x ≡ b)
joined (Ok x) made a b e h = h ∙ e
joined (Err x) made a b e h = tt

pub returns-then-denied-eq0-clause-ok : goal.returns-then-denied-eq0-clause-ok
returns-then-denied-eq0-clause-ok g c =
    let over = lent_with c.args.under.now c.args.pool.now.entries in
    let second = c.args.under.now.second in
    let members = c.judge_each.new.judged.items in
    let told : members ≡ (course_of c.args.max_rate over second c.args.candidates.now).members =
    c.in_ok-judge_each.ensures.members ∙ ap (λ (l : List Member). l ++ (course_of c.args.max_rate over second c.args.candidates.now).members) c.requires.none in
    let count : denied_count members ≡ 0 = ap denied_count (sym c.as_slice.ensures.value) ∙ sym c.count_denied-denied.ensures ∙ c.if-denied-eq0.true in
    (λ i. judged_as (c.of.ensures.verdict i) members (c.of.ensures.together i) c.judge_each.new.pool.entries)
    ∙ all_taken c.args.max_rate over second c.args.candidates.now members c.judge_each.new.pool.entries told c.in_ok-judge_each.ensures.entries count

pub returns-then-has_failed-clause-ok : goal.returns-then-has_failed-clause-ok
returns-then-has_failed-clause-ok g c =
    let over = lent_with c.args.under.now c.args.pool.now.entries in
    let second = c.args.under.now.second in
    let members = c.judge_each.new.judged.items in
    let told : members ≡ (course_of c.args.max_rate over second c.args.candidates.now).members =
    c.in_ok-judge_each.ensures.members ∙ ap (λ (l : List Member). l ++ (course_of c.args.max_rate over second c.args.candidates.now).members) c.requires.none in
    let count : denied_count members ≡ c.count_denied-denied.result = ap denied_count (sym c.as_slice.ensures.value) ∙ sym c.count_denied-denied.ensures in
    let failed : has_failed c.args.under.now.policy.now c.args.candidates.now members ≡ c.has_failed.result =
    ap (has_failed c.args.under.now.policy.now c.args.candidates.now) (sym c.as_slice-2.ensures.value) ∙ sym c.has_failed.ensures in
    (λ i. judged_as (c.of-then-has_failed.ensures.verdict i) members (c.of-then-has_failed.ensures.together i) c.judge_each.new.pool.entries)
    ∙ all_fail c.args.max_rate over second c.args.candidates.now members c.judge_each.new.pool.entries told c.in_ok-judge_each.ensures.entries
    (λ e. c.if-denied-eq0.false (sym count ∙ e)) (⊎_elim (λ h. inl (failed ∙ h)) (λ h. inr (count ∙ h.1)) c.then-has_failed.either)

pub returns-clause-ok : goal.returns-clause-ok
returns-clause-ok g c =
    let over = lent_with c.args.under.now c.args.pool.now.entries in
    let second = c.args.under.now.second in
    let members = c.judge_each.new.judged.items in
    let told : members ≡ (course_of c.args.max_rate over second c.args.candidates.now).members =
    c.in_ok-judge_each.ensures.members ∙ ap (λ (l : List Member). l ++ (course_of c.args.max_rate over second c.args.candidates.now).members) c.requires.none in
    let count : denied_count members ≡ c.count_denied-denied.result = ap denied_count (sym c.as_slice.ensures.value) ∙ sym c.count_denied-denied.ensures in
    let failed : has_failed c.args.under.now.policy.now c.args.candidates.now members ≡ c.has_failed.result =
    ap (has_failed c.args.under.now.policy.now c.args.candidates.now) (sym c.as_slice-2.ensures.value) ∙ sym c.has_failed.ensures in
    let these = denied_of c.args.candidates.now members in
    joined c.reconsider.result (λ (k : Conclusion). judged_as k.verdict c.reconsider.new.members.items k.together c.reconsider.new.pool.entries)
    (reconsidered_by c.args.max_rate (lent_with c.args.under.now c.judge_each.new.pool.entries) second members these) (judged_of c.args.max_rate over second c.args.candidates.now)
    (judged_again c.args.max_rate over second c.args.candidates.now members c.judge_each.new.pool.entries told c.in_ok-judge_each.ensures.entries
    (λ e. c.if-denied-eq0.false (sym count ∙ e)) (failed ∙ c.if-has_failed.false) (λ e. c.if-denied-eq1.false (sym count ∙ e)))
    c.reconsider.ensures.ok
