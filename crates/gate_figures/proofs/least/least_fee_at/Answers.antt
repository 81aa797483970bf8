use Rattle.std.proofs.Common.{◌≡◌, ◌∙◌, ℕ, List, Option, None, Some, false, true, refl, sym, subst, ◌&&◌}
use Rattle.std.specs.Prelude.{nat_le}
use Rattle.gate_standard.specs.declared.Feerate.{Feerate}
use Rattle.gate_rbf.specs.declared.ParentsOf.{ParentsOf}
use Rattle.gate_rbf.specs.Replacing.{replacement_rules}
use Rattle.gate_admit.specs.Policies.{incremental_feerate}
use Rattle.gate_figures.specs.Least.{IsLeast, IsLeastFee, passes}
use Rattle.gate_figures.proofs.Passing.{asked, limits_fail, limits_pass}
use Rattle.gate_figures.proofs.least.least_fee_at.Goals as goal

pub returns-in_default : goal.returns-in_default
returns-in_default g c =
    subst (λ (v : Option ℕ). IsLeastFee c.args.policy.now c.args.floor.now c.args.pool.now.entries c.args.tx.now v None) (sym c.in_default.is) refl

pub returns-then-is_some : goal.returns-then-is_some
returns-then-is_some g c =
    subst (λ (v : Option ℕ). IsLeastFee c.args.policy.now c.args.floor.now c.args.pool.now.entries c.args.tx.now v None) (sym c.in-Some.is)
    (limits_fail c.args.policy.now c.args.floor.now c.args.pool.now.entries c.args.tx.now c.in-Some.vsize (asked _ _ _ true c.in_ok-denial.ensures c.is_some.ensures c.if-is_some.true))

pub returns : goal.returns
returns g c =
    let policy = c.args.policy.now in
    let entries = c.args.pool.now.entries in
    let tx = c.args.tx.now in
    let vsize = c.in-Some.vsize in
    let paying = c.fee_to_relay-paying.result in
    let sibling = c.in_ok-sibling.sibling in
    let found = c.in_ok-found.found in
    let least =
    subst (λ (s : Option (List ℕ)). IsLeast (λ fee. nat_le paying fee && passes (replacement_rules (incremental_feerate policy) policy.parents entries s tx fee vsize)) found) c.in_ok-sibling.ensures
    (subst (λ (r : Feerate). IsLeast (λ fee. nat_le paying fee && passes (replacement_rules r policy.parents entries sibling tx fee vsize)) found) c.incremental_feerate-rate.ensures
    (subst (λ (p : ParentsOf). IsLeast (λ fee. nat_le paying fee && passes (replacement_rules c.incremental_feerate-rate.result p entries sibling tx fee vsize)) found) c.parents.ensures c.in_ok-found.ensures)) in
    subst (λ (v : Option ℕ). IsLeastFee policy c.args.floor.now entries tx v found) (sym c.in-Some.is)
    (limits_pass policy c.args.floor.now entries tx vsize paying found (asked _ _ _ false c.in_ok-denial.ensures c.is_some.ensures c.if-is_some.false) (c.fee_to_relay-paying.ensures tx) least)
