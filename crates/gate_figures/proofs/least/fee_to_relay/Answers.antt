use Rattle.std.proofs.Common.{◌≡◌, ℕ, max, ap, sym, ◌∙◌}
use Rattle.std.specs.Prelude.{nat_le}
use Rattle.gate_standard.specs.Amounts.{required_fee}
use Rattle.gate_standard.specs.declared.Feerate.{Feerate}
use Rattle.gate_admit.specs.Policies.{feerate_by, relay_feerate}
use Rattle.gate_figures.proofs.Passing.{payment_asks}
use Rattle.gate_figures.proofs.least.fee_to_relay.Goals as goal

pub returns : goal.returns
returns c = λ tx fee.
    let by_floor : c.fee-by_floor.result ≡ required_fee (feerate_by c.args.policy.now c.args.floor.now) c.args.vsize =
    c.fee-by_floor.ensures ∙ ap (λ (r : Feerate). required_fee r c.args.vsize) (c.feerate.ensures ∙ ap (feerate_by c.args.policy.now) c.rate.ensures) in
    let by_relay : c.fee-by_relay.result ≡ required_fee (relay_feerate c.args.policy.now) c.args.vsize =
    c.fee-by_relay.ensures ∙ ap (λ (r : Feerate). required_fee r c.args.vsize) c.relay_feerate.ensures in
    payment_asks c.args.policy.now tx c.args.floor.now c.args.vsize fee ∙ ap (λ (n : ℕ). nat_le n fee) (sym (c.max.ensures ∙ (λ i. max (by_floor i) (by_relay i))))
