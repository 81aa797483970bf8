use Rattle.std.proofs.Common.{arith}
use Rattle.gate_rpc.specs.Replies.{outcome_json}
use Rattle.gate_rpc.proofs.Listed.{items_whole}
use Rattle.gate_rpc.proofs.writing.some_outcomes_json.Goals as goal

pub returns : goal.returns
returns c = items_whole outcome_json c.args.first.now c.args.others.now c.loop-outcome.outcome-index _ _ c.loop-outcome.invariant (omega (arith, c.loop-outcome-test.false)) c.in_ok-push_str.ensures.bytes
