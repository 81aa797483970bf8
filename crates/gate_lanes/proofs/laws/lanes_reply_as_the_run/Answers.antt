use Rattle.gate_lanes.proofs.LaneReplies.{lanes_reply_as_the_run}
use Rattle.gate_lanes.proofs.laws.lanes_reply_as_the_run.Goals as goal

pub returns : goal.returns
returns c = lanes_reply_as_the_run
