-- What `gate run` writes, if its input is known: the reply lines of the run, whose states stay good.
use Rattle.std.specs.Prelude.{◌≡◌, ℕ, ◌++◌, List, Some, Ok}
use Rattle.gate_core.specs.Runs.{run_of}
use Rattle.gate_core.specs.World.{World}
use Rattle.gate_run.specs.GateJobs.{GateRan}
use Rattle.gate_lane.specs.LaneEvents.{lane_events}
use Rattle.gate_run.specs.LaneRuns.{lane_replies, LacksFault, StaysGood}
use Rattle.gate_lines.specs.Lines.{lines_of, unlines}
use Rattle.gate_opening.specs.Openings.{opening_part}
use Rattle.gate_opening.specs.Said.{spelled}

abbrev pub GateRunsAreRuns : Type 0
GateRunsAreRuns =
    (text rest before after : List ℕ) (status : ℕ) (w : World)
    → spelled text ≡ Ok w → text ≡ opening_part text ++ rest
    → GateRan (Some text) (Some before) (Some after) status
    → (replies : List (List ℕ)) × (after ≡ before ++ unlines replies) × (status ≡ 0)
    × (LacksFault replies
    → (replies ≡ lane_replies 0 (lines_of rest) (run_of w (lane_events 0 (lines_of rest))).0) × StaysGood w (lane_events 0 (lines_of rest)))
