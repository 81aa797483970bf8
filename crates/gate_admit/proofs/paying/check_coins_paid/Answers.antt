use Rattle.std.proofs.Common.{◌∙◌}
use Rattle.gate_admit.proofs.Valuing.{coin_fails}
use Rattle.gate_admit.proofs.paying.check_coins_paid.Goals as goal

pub returns-in-Err-clause-err : goal.returns-in-Err-clause-err
returns-in-Err-clause-err c =
    c.loop-coin.invariant.2
    ∙ coin_fails c.args.next_height c.loop-coin.sum c.args.coins.now c.loop-coin.coin-index c.coin-item.result c.in-Err.denial c.loop-coin-test.true c.coin-item.is
    c.in-Err.ensures.err
