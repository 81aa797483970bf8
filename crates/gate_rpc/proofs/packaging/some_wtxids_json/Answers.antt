use Rattle.std.proofs.Common.{arith}
use Rattle.gate_rpc.proofs.Listed.{listed_whole}
use Rattle.gate_rpc.proofs.packaging.some_wtxids_json.Goals as goal

pub returns : goal.returns
returns c = listed_whole c.args.first.now c.args.others.now c.loop-wtxid.wtxid-index _ _ c.loop-wtxid.invariant (omega (arith, c.loop-wtxid-test.false)) c.in_ok-push_str.ensures.bytes
