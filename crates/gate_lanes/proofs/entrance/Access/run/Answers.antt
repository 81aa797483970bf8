use Rattle.gate_lanes.proofs.Ran.{lane_ran}
use Rattle.gate_lanes.proofs.entrance.Access.run.Goals as goal

pub returns-clause-ran : goal.returns-clause-ran
returns-clause-ran g c =
    lane_ran (g.R.Read.remaining c.args.seated.lane.reader) (g.R.Read.remaining c.run_lane-result.new.reader)
    (g.W.Write.contents c.args.seated.lane.writer) _ _ _ c.run_lane-result.result c.of-place.ensures c.run_lane-result.ensures.ran
