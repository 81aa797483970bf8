use Rattle.std.proofs.Common.{◌≡◌, ◌∙◌, ℕ, List, Option, subst}
use Rattle.gate_tx.specs.Tx.{Tx}
use Rattle.gate_chain.specs.History.{History}
use Rattle.gate_pool.specs.Pool.{Admitted}
use Rattle.gate_admit.specs.Policies.{Policy}
use Rattle.gate_figures.specs.Figures.{vsize_at}
use Rattle.gate_figures.specs.Least.{IsLeastFee}
use Rattle.gate_figures.proofs.least.least_fee_of.Goals as goal

pub returns : goal.returns
returns g c =
    let w = c.args.state.now in
    let found = c.in_ok-found.found in
    let tx = c.args.tx.now in
    let policy = c.policy-policy.result.now in
    let entries = c.pool-pool.result.now.entries in
    subst (λ (p : Policy). IsLeastFee p w.floor w.pool tx (vsize_at p.sigop_size w.chain w.pool tx) found) c.policy-policy.ensures
    (subst (λ (h : History). IsLeastFee policy w.floor w.pool tx (vsize_at policy.sigop_size h w.pool tx) found) c.chain.ensures
    (subst (λ (l : List Admitted). IsLeastFee policy w.floor l tx (vsize_at policy.sigop_size c.chain.result.now l tx) found) c.pool-pool.ensures
    (subst (λ (f : ℕ). IsLeastFee policy f entries tx (vsize_at policy.sigop_size c.chain.result.now entries tx) found) c.floor.ensures
    (subst (λ (t : Tx). IsLeastFee policy c.floor.result.now entries t (vsize_at policy.sigop_size c.chain.result.now entries tx) found) c.transaction-transaction.ensures
    (subst (λ (v : Option ℕ). IsLeastFee policy c.floor.result.now entries c.transaction-transaction.result.now v found) c.in_ok-price.ensures.vsize c.in_ok-found.ensures)))))
