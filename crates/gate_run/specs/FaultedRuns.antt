-- A lane in some of whose steps memory ran out: except for these steps it is the run over the events that were answered.
use Rattle.std.specs.Prelude.{◌≡◌, ℕ, ◌++◌, Bool, if◌then◌else◌, List, [], ◌∷◌, Some, Ok}
use Rattle.std.specs.Str.{bytes_eq}
use Rattle.gate_core.specs.Good.{IsGoodWorld}
use Rattle.gate_core.specs.Runs.{run_of}
use Rattle.gate_core.specs.World.{World}
use Rattle.gate_lines.specs.Lines.{is_skipped, lines_of, unlines}
use Rattle.gate_run.specs.GateJobs.{GateRan}
use Rattle.gate_lane.specs.LaneEvents.{lane_events}
use Rattle.gate_run.specs.LaneRuns.{StaysGood, lane_replies}
use Rattle.gate_run.specs.Lanes.{Run, fault_memory}
use Rattle.gate_opening.specs.Openings.{opening_part}
use Rattle.gate_opening.specs.Said.{spelled}

-- the reply line says that memory ran out in the step
abbrev pub is_fault : List ℕ → Bool
is_fault reply = bytes_eq reply fault_memory

-- these reply lines except `fault memory`
abbrev pub answers_among : List (List ℕ) → List (List ℕ)
answers_among [] = []
answers_among (reply ∷ replies) = if is_fault reply then answers_among replies else reply ∷ answers_among replies

-- a line that asks for something, by its reply, and what follows it
abbrev pub answered_line : List ℕ → List (List ℕ) → (List (List ℕ) → List (List ℕ)) → List (List ℕ)
answered_line line [] following = line ∷ following []
answered_line line (reply ∷ replies) following = (if is_fault reply then [] else line) ∷ following replies

-- The lines that were answered, by the reply lines to all lines. An empty line, which asks for nothing, stands for each line
-- that was answered `fault memory`, so that the other lines keep their numbers.
abbrev pub answered_lines : List (List ℕ) → List (List ℕ) → List (List ℕ)
answered_lines [] replies = []
answered_lines (line ∷ lines) replies =
    if is_skipped line then line ∷ answered_lines lines replies else answered_line line replies (answered_lines lines)

-- The reply lines except `fault memory` are those of the run over the events that were answered, and the state is the run's. From a
-- good state it stays good.
abbrev pub FaultedLanesAreRuns : Type 0
FaultedLanesAreRuns =
    (old : World) (lines replies : List (List ℕ)) (new : World) → Run 0 old lines replies new
    → (answers_among replies ≡ lane_replies 0 (answered_lines lines replies) (run_of old (lane_events 0 (answered_lines lines replies))).0)
    × (new ≡ (run_of old (lane_events 0 (answered_lines lines replies))).1)
    × (IsGoodWorld old → StaysGood old (lane_events 0 (answered_lines lines replies)))

-- What `gate run` writes except `fault memory` are the reply lines of the run over the events that were answered, whose states stay
-- good.
abbrev pub FaultedGateRunsAreRuns : Type 0
FaultedGateRunsAreRuns =
    (text rest before after : List ℕ) (status : ℕ) (w : World)
    → spelled text ≡ Ok w → text ≡ opening_part text ++ rest → GateRan (Some text) (Some before) (Some after) status
    → (replies : List (List ℕ)) × (after ≡ before ++ unlines replies) × (status ≡ 0)
    × (answers_among replies ≡ lane_replies 0 (answered_lines (lines_of rest) replies) (run_of w (lane_events 0 (answered_lines (lines_of rest) replies))).0)
    × StaysGood w (lane_events 0 (answered_lines (lines_of rest) replies))
