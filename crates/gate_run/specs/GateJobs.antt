-- What `gate run` writes, and how it stops.
use Rattle.std.specs.Prelude.{◌≡◌, ℕ, ◌++◌, List, [], Option, IfSome, Result, Ok, Err, ◌⊎◌}
use Rattle.std.specs.Io.KnownBytes.{Appends}
use Rattle.gate_core.specs.World.{World}
use Rattle.gate_lines.specs.declared.fault.LaneFault.{LaneFault}
use Rattle.gate_lines.specs.declared.fault.LaneFault.TheVariants as lane
use Rattle.gate_opening.specs.declared.OpeningFault.{OpeningFault}
use Rattle.gate_opening.specs.declared.OpeningFault.TheVariants as faults
use Rattle.gate_run.specs.Lanes.{Run, LaneUnread, StoppedBy}
use Rattle.gate_run.specs.Refusals.{FaultPrinted, OpenedAs, StoppedInRefusal}
use Rattle.gate_lines.specs.Lines.{lines_of, unlines}
use Rattle.gate_opening.specs.Openings.{opening_part, OpeningUnread}
use Rattle.gate_opening.specs.Said.{spelled}

-- the reply lines to the lines behind the opening of the text were written, from the opening's state
abbrev pub LaneRan : List ℕ → World → Option (List ℕ) → Option (List ℕ) → ℕ → Type 0
LaneRan text state before after status = (rest : List ℕ) × (replies : List (List ℕ)) × (new : World)
    × (text ≡ opening_part text ++ rest) × Run 0 state (lines_of rest) replies new × Appends before after (unlines replies) × (status ≡ 0)

abbrev pub TextRan : List ℕ → Result World OpeningFault → Option (List ℕ) → Option (List ℕ) → ℕ → Type 0
TextRan text (Ok state) before after status = LaneRan text state before after status
TextRan text (Err (faults.Line line token)) before after status = FaultPrinted line token before after status
TextRan text (Err faults.Read) before after status = ⊥
TextRan text (Err faults.Memory) before after status = ⊥

-- `gate run`: an opening, and then a lane
abbrev pub GateRan : Option (List ℕ) → Option (List ℕ) → Option (List ℕ) → ℕ → Type 0
GateRan input before after status = IfSome input (λ text. TextRan text (spelled text) before after status)

-- ---- after a fault

-- the lane behind the opening stopped
abbrev pub LaneFaulted : Option (List ℕ) → Option (List ℕ) → Option (List ℕ) → Option (List ℕ) → World → World → LaneFault → Type 0
LaneFaulted input rest before after old new lane.Read = LaneUnread input rest before after old new
LaneFaulted input rest before after old new lane.Write = StoppedBy lane.Write 0 input before after old new
LaneFaulted input rest before after old new lane.Memory = StoppedBy lane.Memory 0 input before after old new

abbrev pub StoppedInLane : Option (List ℕ) → Option (List ℕ) → Option (List ℕ) → Option (List ℕ) → LaneFault → Type 0
StoppedInLane input rest before after fault =
    (middle : Option (List ℕ)) × (state : World) × (new : World) × OpenedAs input middle state × LaneFaulted middle rest before after state new fault

-- `gate run` stopped: in its opening, with nothing written, or in the line of the opening's fault, or in its lane
abbrev pub GateStopped : Option (List ℕ) → Option (List ℕ) → Option (List ℕ) → Option (List ℕ) → LaneFault → Type 0
GateStopped input rest before after lane.Read = (OpeningUnread input rest × Appends before after []) ⊎ StoppedInLane input rest before after lane.Read
GateStopped input rest before after lane.Write = StoppedInRefusal input before after ⊎ StoppedInLane input rest before after lane.Write
GateStopped input rest before after lane.Memory = Appends before after [] ⊎ StoppedInLane input rest before after lane.Memory
