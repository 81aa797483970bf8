use Rattle.std.proofs.Common.{◌∙◌}
use Rattle.gate_core.specs.World.{standing_of}
use Rattle.gate_figures.proofs.Behind.{priced}
use Rattle.gate_figures.proofs.members.price_behind.Goals as goal

pub returns : goal.returns
returns g c =
    let price = c.in_ok-price.price in
    let tx = c.get-tx.ensures ∙ c.identified.ensures in
    priced (standing_of c.args.state.now) c.args.others.now c.args.candidate.now c.chain.result.now c.pool.result.now.entries c.policy.result.now c.get-tx.result.now c.inputs-inputs.result.now c.as_slice.result.now
    c.chain.ensures c.pool.ensures c.policy.ensures tx (c.inputs-inputs.ensures ∙ (λ i. (c.transaction.ensures i).inputs)) (c.as_slice.ensures.value ∙ c.in_ok-coins.ensures.coins)
    c.price_at.result price.fee price.vsize c.price_at.ensures c.in_ok-price.ensures.fee c.in_ok-price.ensures.vsize
