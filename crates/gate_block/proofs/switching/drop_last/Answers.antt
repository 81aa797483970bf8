use Rattle.gate_block.proofs.Switches.{gone_on}
use Rattle.gate_block.proofs.switching.drop_last.Goals as goal

pub loop-preserved : goal.loop-preserved
loop-preserved g c = gone_on c.args.chain.now c.loop.chain c.disconnect.new.self c.loop.counter c.disconnect.result c.loop.invariant c.disconnect.ensures.ok c.disconnect.ensures.err c.disconnect.ensures.denied
