use Rattle.std.proofs.Common.{◌≡◌, Bool, ◌∙◌, Result, sym, ap, subst}
use Rattle.std.specs.Prelude.{IfOk, is_some}
use Rattle.gate_rules.specs.declared.Denial.{Denial}
use Rattle.gate_pool.specs.Keeping.{IsNew}
use Rattle.gate_admit.specs.Bounds.{FitsAnEntry}
use Rattle.gate_admit.specs.declared.Attempt.TheVariants.{First}
use Rattle.gate_admit.specs.declared.Grant.{Grant}
use Rattle.gate_admit.specs.Lending.{lent_with}
use Rattle.gate_admit.specs.Rules.{decision_of}
use Rattle.gate_admit.specs.Submission.{admitted}
use Rattle.gate_admit.specs.Truc.{sibling_of}
use Rattle.gate_admit.proofs.Granted.{found_fit}
use Rattle.gate_query.specs.Queries.{has_conflict, unevicting, unreplacing}
use Rattle.gate_query.proofs.Behind.{grants_new, unevicting_fits, unevicting_new, unreplacing_fits}
use Rattle.gate_query.proofs.listed.decide.Goals as goal

pub returns-clause-decision : goal.returns-clause-decision
returns-clause-decision g c =
    let under = c.args.under.now in
    let entries = c.args.pool.now.entries in
    let over = lent_with under entries in
    let tx = c.transaction-tx.ensures in
    let made = c.in_ok-decision.ensures.decision ∙ ap (decision_of First over) c.requires in
    let found = c.has_conflict.ensures ∙ ap (has_conflict entries) tx in
    let sibling = c.is_some.ensures ∙ ap is_some (c.in_ok-sibling.ensures ∙ ap (sibling_of First under.policy.now entries) tx) in
    c.unevicting.ensures ∙ (λ i. unevicting (sibling i) ((c.unreplacing-decision.ensures ∙ (λ j. unreplacing (found j) (made j))) i))

pub returns-clause-fits : goal.returns-clause-fits
returns-clause-fits g c =
    let over = lent_with c.args.under.now c.args.pool.now.entries in
    let listed = subst FitsAnEntry (sym c.unreplacing-decision.ensures) (unreplacing_fits _ _ (found_fit First over c.args.prepared.now c.recall_bounds.ensures _ c.in_ok-decision.ensures.decision)) in
    subst FitsAnEntry (sym c.unevicting.ensures) (unevicting_fits _ _ listed)

pub returns-clause-new : goal.returns-clause-new
returns-clause-new g c =
    let entries = c.args.pool.now.entries in
    let second = c.args.under.now.second in
    let over = lent_with c.args.under.now entries in
    let tx = c.args.identified.now in
    let fact : Result Grant Denial → Type 0 = λ r. IfOk r (λ (grant : Grant). IsNew entries (admitted tx grant second)) in
    let made = c.in_ok-decision.ensures.decision ∙ ap (decision_of First over) c.requires in
    let found = c.has_conflict.ensures ∙ ap (has_conflict entries) c.transaction-tx.ensures in
    let listed = subst fact (sym c.unreplacing-decision.ensures) (grants_new over second tx _ _ made found) in
    subst fact (sym c.unevicting.ensures) (unevicting_new over second tx _ _ listed)
