-- What is granted pays its least fee.
use Rattle.std.proofs.Common.{◌≡◌, ◌<◌, ◌≤◌, ◌^◌, ◌∙◌, ◌++◌, ◌∷◌, [], ℕ, Bool, true, false, List, Option, Some, None, refl, sym, ap, subst, true≢false, arith}
use Rattle.std.specs.Prelude.{◌-◌, nat_le, if◌then◌else◌, is_none, Ok}
use Rattle.std.proofs.lemmas.Bool.{and_from, leb-true, ltb-false}
use Rattle.gate_bytes.specs.Order.{Rule, first_failing, NoneFails}
use Rattle.gate_tx.specs.Money.{max_money}
use Rattle.gate_tx.specs.Tx.{Tx}
use Rattle.gate_rules.specs.declared.Denial.{Denial}
use Rattle.gate_rbf.specs.Replacing.{replacement_rules}
use Rattle.gate_admit.specs.declared.attempt.Attempt.TheVariants.{First}
use Rattle.gate_admit.specs.declared.grant.Grant.{Grant}
use Rattle.gate_admit.specs.Limits.{limit_rules}
use Rattle.gate_admit.specs.Policies.{incremental_feerate}
use Rattle.gate_admit.specs.Reports.{report_rules, vsize_of}
use Rattle.gate_admit.specs.Rules.{admission_rules, balance_rules, decision_of, fee_rules, grant_of}
use Rattle.gate_admit.specs.Standing.{Standing}
use Rattle.gate_admit.specs.Truc.{sibling_of}
use Rattle.gate_admit.proofs.Granted.{granted}
use Rattle.gate_admit.proofs.Passing.{Passes, passes as group_by_group}
use Rattle.gate_figures.specs.Figures.{cost_at, fee_at}
use Rattle.gate_figures.specs.Laws.{GrantsReachTheLeastFee, Reaches}
use Rattle.gate_figures.specs.Least.{IsLeast, IsLeastFee, IsLeastFor, fee_side, passes}
use Rattle.gate_figures.proofs.Passing.{passes-append}

none_passes : (rules : List (Rule Denial)) → NoneFails rules → passes rules ≡ true
none_passes [] h = refl
none_passes (x ∷ xs) h = ap (λ (b : Bool). is_none (if b then Some x.0 else first_failing xs)) h.0 ∙ none_passes xs h.1

three_pass : (a b c : List (Rule Denial)) → NoneFails a → NoneFails b → NoneFails c → passes (a ++ (b ++ c)) ≡ true
three_pass a b c h k l =
    passes-append a (b ++ c) ∙ and_from _ _ (none_passes a h) (passes-append b c ∙ and_from _ _ (none_passes b k) (none_passes c l))

-- a fee that passes reaches the least
reached : (test : ℕ → Bool) (fee : ℕ) (found : Option ℕ) → fee ≤ max_money → test fee ≡ true → IsLeast test found → Reaches found fee
reached test fee None small passed least = let less : fee < 2 ^ 64 = omega arith in true≢false (sym passed ∙ least fee less)
reached test fee (Some n) small passed least = leb-true n fee (sym (least fee) ∙ passed)

grant_reaches : (over : Standing) (tx : Tx) (found : Option ℕ) → Passes First over tx → IsLeastFor over (Some tx) found → Reaches found (grant_of First over tx).fee
unfolding balance_rules report_rules grant_of
grant_reaches over tx found p least =
    let vsize = vsize_of over.policy.sigop_size (cost_at over.chain over.entries tx) tx in
    let fee = fee_at over.chain over.entries tx in
    let sized = subst (λ (b : Bool). IsLeastFee over.policy over.floor over.entries tx (if b then None else Some vsize) found) p.report.1.1.1.0 least in
    let passed : passes (fee_side over.policy over.floor over.entries tx vsize fee) ≡ true =
    three_pass (fee_rules over.policy tx over.floor fee vsize) (limit_rules First over.policy over.entries tx vsize) (replacement_rules (incremental_feerate over.policy) over.policy.parents over.entries (sibling_of First over.policy over.entries tx) tx fee vsize)
    p.payment p.limits p.replacement in
    reached (λ n. passes (fee_side over.policy over.floor over.entries tx vsize n)) fee found (ltb-false _ _ p.balance.1.0) passed sized

pub grants_reach_the_least_fee : GrantsReachTheLeastFee
unfolding decision_of
grants_reach_the_least_fee over tx grant found h least =
    let both = granted (first_failing (admission_rules First over tx)) (grant_of First over tx) grant h in
    subst (λ (g : Grant). Reaches found g.fee) both.1 (grant_reaches over tx found (group_by_group First over tx both.0) least)
