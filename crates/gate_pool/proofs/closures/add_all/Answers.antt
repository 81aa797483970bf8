use Rattle.gate_pool.proofs.Searching.{IsFound-next, IsFound-end}
use Rattle.gate_pool.proofs.closures.add_all.Goals as goal

pub returns-then-not-branch : goal.returns-then-not-branch
returns-then-not-branch g c = IsFound-end c.args.txids.now c.loop-txid.txid-index c.txid-item.result c.loop-txid-test.true c.txid-item.is c.loop-txid.invariant c.in_ok-add.ensures c.if-not-branch.true

pub loop-txid-preserved : goal.loop-txid-preserved
loop-txid-preserved g c = IsFound-next c.args.txids.now c.loop-txid.txid-index c.txid-item.result c.loop-txid-test.true c.txid-item.is c.loop-txid.invariant c.in_ok-add.ensures c.if-not-branch.false
