use Rattle.std.proofs.Common.{arith}
use Rattle.gate_rpc.specs.Replies.{spending_json}
use Rattle.gate_rpc.proofs.Listed.{items_whole}
use Rattle.gate_rpc.proofs.writing.some_spendings_json.Goals as goal

pub returns : goal.returns
returns c = items_whole spending_json c.args.first.now c.args.others.now c.loop-spending.spending-index _ _ c.loop-spending.invariant (omega (arith, c.loop-spending-test.false)) c.in_ok-push_str.ensures.bytes
