use Rattle.gate_core.specs.World.{standing_of}
use Rattle.gate_figures.proofs.Gone.{lower_fee, lower_difference}
use Rattle.gate_figures.proofs.judging.paying_figures.Goals as goal

pub returns-in_ok-fees_replaced-in-LowerFee : goal.returns-in_ok-fees_replaced-in-LowerFee
returns-in_ok-fees_replaced-in-LowerFee g c =
    let pool = c.pool-pool.result.now.entries in
    lower_fee (standing_of c.args.state.now) c.args.tx.now c.args.denial c.chain.result.now pool c.policy-policy.result.now c.transaction-transaction.result.now c.chain.ensures c.pool-pool.ensures
    c.policy-policy.ensures c.transaction-transaction.ensures c.in_ok-price.price.fee c.in_ok-fees_replaced-in-LowerFee.field-0 c.in-LowerFee.is c.in_ok-price.ensures.fee
    c.in_ok-fees_replaced-in-LowerFee.ensures

pub returns-in_ok-gone-in-LowerDifference : goal.returns-in_ok-gone-in-LowerDifference
returns-in_ok-gone-in-LowerDifference g c =
    let pool = c.pool-pool.result.now.entries in
    let price = c.in_ok-price.price in
    lower_difference (standing_of c.args.state.now) c.args.tx.now c.args.denial c.chain.result.now pool c.policy-policy.result.now c.transaction-transaction.result.now c.chain.ensures
    c.pool-pool.ensures c.policy-policy.ensures c.transaction-transaction.ensures c.pays_above.result c.incremental_feerate-rate.result c.in_ok-gone-in-LowerDifference.gone price.fee price.vsize
    c.in-LowerDifference.is c.pays_above.ensures c.incremental_feerate-rate.ensures c.in_ok-gone-in-LowerDifference.ensures c.in_ok-price.ensures.fee c.in_ok-price.ensures.vsize
