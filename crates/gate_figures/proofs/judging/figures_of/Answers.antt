use Rattle.gate_core.specs.World.{standing_of}
use Rattle.gate_figures.proofs.Gone.{too_many}
use Rattle.gate_figures.proofs.judging.figures_of.Goals as goal

pub returns-in_ok-descendants_replaced-in-TooManyReplacements : goal.returns-in_ok-descendants_replaced-in-TooManyReplacements
returns-in_ok-descendants_replaced-in-TooManyReplacements g c =
    too_many (standing_of c.args.state.now) c.args.tx.now c.args.denial c.chain-chain.result.now c.pool-pool.result.now.entries c.policy-policy.result.now c.transaction-transaction.result.now
    c.chain-chain.ensures c.pool-pool.ensures c.policy-policy.ensures c.transaction-transaction.ensures c.in_ok-descendants_replaced-in-TooManyReplacements.field-0 c.in-TooManyReplacements.is
    c.in_ok-descendants_replaced-in-TooManyReplacements.ensures
