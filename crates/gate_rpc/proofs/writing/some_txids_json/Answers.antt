use Rattle.std.proofs.Common.{arith}
use Rattle.gate_rpc.proofs.Listed.{listed_whole}
use Rattle.gate_rpc.proofs.writing.some_txids_json.Goals as goal

pub returns : goal.returns
returns c = listed_whole c.args.first.now c.args.others.now c.loop-txid.txid-index _ _ c.loop-txid.invariant (omega (arith, c.loop-txid-test.false)) c.in_ok-push_str.ensures.bytes
