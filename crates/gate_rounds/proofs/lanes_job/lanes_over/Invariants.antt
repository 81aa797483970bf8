use Rattle.std.proofs.Common.{◌≡◌, map, take, Some}
use Rattle.gate_lanes.specs.Ends.{given, lane_over}
use Rattle.gate_rounds.specs.Texts.{bytes_of}
use Rattle.gate_rounds.proofs.lanes_job.lanes_over.Given as goal

abbrev pub invariant-loop-bytes : goal.invariant-loop-bytes
invariant-loop-bytes l = map (λ lane. given (Some lane.reader.now) (Some lane.writer.items)) l.lanes.items ≡ map lane_over (take l.bytes-index (bytes_of l.parts))
