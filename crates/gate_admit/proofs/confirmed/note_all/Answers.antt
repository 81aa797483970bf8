use Rattle.std.proofs.Common.{◌∙◌, ap, arith}
use Rattle.gate_tx.specs.Ids.{wtxid_of}
use Rattle.gate_admit.proofs.Needed.{noting_starts, noting_goes, noting_ends}
use Rattle.gate_admit.proofs.confirmed.note_all.Goals as goal

pub loop-tx-init : goal.loop-tx-init
loop-tx-init g c = λ wtxid. noting_starts _

pub loop-tx-preserved : goal.loop-tx-preserved
loop-tx-preserved g c = λ wtxid.
    noting_goes c.args.txs.now c.loop-tx.tx-index c.tx-item.result c.wtxid.result wtxid _ _ _ (omega arith) c.tx-item.is (c.wtxid.ensures ∙ ap wtxid_of c.get.ensures) (c.in_ok-insert.ensures.updates.0 wtxid) (c.loop-tx.invariant wtxid)

pub returns : goal.returns
returns g c = λ wtxid. c.loop-tx.invariant wtxid ∙ noting_ends c.args.txs.now c.loop-tx.tx-index wtxid _ (omega arith)
