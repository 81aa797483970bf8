use Rattle.std.proofs.Common.{sym}
use Rattle.gate_package.proofs.Finding.{found_more}
use Rattle.gate_package.proofs.coins.find_coins.Goals as goal

pub loop-input-preserved : goal.loop-input-preserved
loop-input-preserved g c =
    let so = c.loop-input.invariant in
    found_more c.args.under.now.chain.now c.args.others.now c.args.pool.now.entries c.args.inputs.now c.loop-input.coins.items c.push.new.self.items c.loop-input.input-index c.input-item.result c.in-Some.coin
    c.loop-input-test.true c.input-item.is (sym c.in-Some.ensures.coin) c.in-Some.ensures.height c.in_ok-push-in-Some.ensures.items so.0 so.1 so.2 so.3
