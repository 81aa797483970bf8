-- How rounds of lanes end, from a state, and the text that reports them.
use Rattle.std.specs.Prelude.{◌≡◌, ℕ, ◌+◌, Bool, List, ◌∷◌, [], ◌++◌, map, Option, None, Some, IfSome, ◌⊎◌, Result, Ok, Err}
use Rattle.std.specs.Global.{Vec}
use Rattle.std.specs.Io.KnownBytes.{Appends}
use Rattle.gate_core.specs.World.{World}
use Rattle.gate_lanes.specs.declared.round.Conclusion.{Conclusion}
use Rattle.gate_lanes.specs.declared.round.RoundEnd.{RoundEnd}
use Rattle.gate_lanes.specs.Ends.{lane_over}
use Rattle.gate_split.specs.Parts.{IsReadable, RoundsRead, rounds_of}
use Rattle.gate_lanes.specs.Rounds.{RoundRan, left_by}
use Rattle.gate_split.specs.declared.fault.SplitFault.{SplitFault}
use Rattle.gate_split.specs.declared.fault.SplitFault.TheVariants as split
use Rattle.gate_lines.specs.declared.fault.LaneFault.{LaneFault}
use Rattle.gate_lines.specs.declared.fault.LaneFault.TheVariants as lane
use Rattle.gate_rounds.specs.LaneLines.{base_text, count_before, entries_by, told_text}
use Rattle.gate_print.specs.Printing.{PartSent}
use Rattle.gate_run.specs.Refusals.{FaultPrinted, OpenedAs, StoppedInRefusal, StoppedUnread}
use Rattle.gate_opening.specs.declared.OpeningFault.{OpeningFault}
use Rattle.gate_opening.specs.declared.OpeningFault.TheVariants as faults
use Rattle.gate_opening.specs.Openings.{opening_part}
use Rattle.gate_opening.specs.Said.{spelled}

-- ---- one round

-- from this state, a round over these lanes ended like this, and the next round begins with this state, if it settles and is whole
abbrev pub Answered : World → List (List ℕ) → RoundEnd (Vec ℕ) → Option World → Type 0
Answered w lanes end next = RoundRan w (map lane_over lanes) (left_by (λ (list : Vec ℕ). Some list.items) end) next

-- the text that reports a round, behind the line of its base if there are rounds before it: `behind` is how many entries these have
abbrev pub round_text : Bool → Option ℕ → RoundEnd (Vec ℕ) → List ℕ
round_text journal behind end = base_text behind ++ told_text journal end

-- how many entries there are behind a round that concludes like this
abbrev pub behind_this : Option ℕ → Conclusion → Option ℕ
behind_this behind conclusion = Some (count_before behind + entries_by conclusion)

-- the next round starts with the state that a round leads to, and behind its entries
abbrev pub GoesBehind : Option ℕ → Conclusion → Option World → World → Option ℕ → Type 0
GoesBehind behind conclusion next state later = (next ≡ Some state) × (later ≡ behind_this behind conclusion)

-- a round went to its end and settled, the text that reports it was written, and this is where the next round starts
abbrev pub RoundTold : Bool → World → Option ℕ → List (List ℕ) → Option (List ℕ) → Option (List ℕ) → World → Option ℕ → Type 0
RoundTold journal w behind lanes before after next later = (end : RoundEnd (Vec ℕ))
    × Answered w lanes end (Some next) × (later ≡ behind_this behind end.conclusion) × Appends before after (round_text journal behind end)

-- a part was written of the line of a round's base, or of the text that reports the round; after a lane stopped, maybe all of it
abbrev pub RoundStopped : Bool → World → Option ℕ → List (List ℕ) → Option (List ℕ) → Option (List ℕ) → Type 0
RoundStopped journal w behind lanes before after = PartSent before after (base_text behind)
    ⊎ ((end : RoundEnd (Vec ℕ)) × (next : Option World) × Answered w lanes end next × PartSent before after (round_text journal behind end))

-- ---- all rounds

-- from this state, rounds over these lanes settled one after another, each on the state that the one before led to, and the texts
-- that report them were written
abbrev pub RoundsTold : Bool → World → Option ℕ → List (List (List ℕ)) → Option (List ℕ) → Option (List ℕ) → Type 0
RoundsTold journal w behind [] before after = Appends before after []
RoundsTold journal w behind (lanes ∷ rounds) before after = (next : World) × (later : Option ℕ) × (middle : Option (List ℕ))
    × RoundTold journal w behind lanes before middle next later × RoundsTold journal next later rounds middle after

-- rounds settled so up to one whose text was written in part, and no round behind that one was run
abbrev pub RoundsStopped : Bool → World → Option ℕ → List (List (List ℕ)) → Option (List ℕ) → Option (List ℕ) → Type 0
RoundsStopped journal w behind [] before after = ⊥
RoundsStopped journal w behind (lanes ∷ rounds) before after = RoundStopped journal w behind lanes before after
    ⊎ ((next : World) × (later : Option ℕ) × (middle : Option (List ℕ))
    × RoundTold journal w behind lanes before middle next later × RoundsStopped journal next later rounds middle after)

-- ---- the input of rounds

-- the input is no text of rounds within the limits
abbrev pub IsUnreadable : Option (List ℕ) → Type 0
IsUnreadable input = IfSome input (λ text. ¬ IsReadable text)

-- the fault of a job whose input could not be divided into rounds
abbrev pub lane_fault_of : SplitFault → LaneFault
lane_fault_of split.Read = lane.Read
lane_fault_of split.TooManyLanes = lane.Read
lane_fault_of split.Memory = lane.Memory

-- all rounds of the input were read, and this was written of them: status 0
abbrev pub InputTold : Bool → World → Option (List ℕ) → Option (List ℕ) → Option (List ℕ) → ℕ → Type 0
InputTold journal w input before after status =
    (rounds : List (List (List ℕ))) × RoundsRead input rounds × RoundsTold journal w None rounds before after × (status ≡ 0)

-- the rounds of the input were read, and their text was written in part
abbrev pub StoppedInRounds : Bool → World → Option (List ℕ) → Option (List ℕ) → Option (List ℕ) → Type 0
StoppedInRounds journal w input before after =
    (rounds : List (List (List ℕ))) × RoundsRead input rounds × RoundsStopped journal w None rounds before after

-- the rounds were not read, and nothing was written; or their text was written in part
abbrev pub InputStopped : Bool → World → Option (List ℕ) → Option (List ℕ) → Option (List ℕ) → LaneFault → Type 0
InputStopped journal w input before after lane.Read = Appends before after []
InputStopped journal w input before after lane.Write = StoppedInRounds journal w input before after
InputStopped journal w input before after lane.Memory = Appends before after [] ⊎ StoppedInRounds journal w input before after

-- ---- the job

-- the text behind the opening is rounds within the limits, and this was written of them, from the opening's state
abbrev pub LanesDone : Bool → List ℕ → Result World OpeningFault → Option (List ℕ) → Option (List ℕ) → ℕ → Type 0
LanesDone journal text (Ok state) before after status = (rest : List ℕ)
    × (text ≡ opening_part text ++ rest) × IsReadable rest × RoundsTold journal state None (rounds_of rest) before after × (status ≡ 0)
LanesDone journal text (Err (faults.Line line token)) before after status = FaultPrinted line token before after status
LanesDone journal text (Err faults.Read) before after status = ⊥
LanesDone journal text (Err faults.Memory) before after status = ⊥

-- `gate lanes`: an opening, and then rounds of lanes
abbrev pub LanesPrinted : Bool → Option (List ℕ) → Option (List ℕ) → Option (List ℕ) → ℕ → Type 0
LanesPrinted journal input before after status = IfSome input (λ text. LanesDone journal text (spelled text) before after status)

-- rounds ran, and a part of the text that reports them was written
abbrev pub StoppedInLanes : Bool → Option (List ℕ) → Option (List ℕ) → Option (List ℕ) → Type 0
StoppedInLanes journal input before after =
    (middle : Option (List ℕ)) × (state : World) × OpenedAs input middle state × StoppedInRounds journal state middle before after

abbrev pub LanesStopped : Bool → Option (List ℕ) → Option (List ℕ) → Option (List ℕ) → Option (List ℕ) → LaneFault → Type 0
LanesStopped journal input rest before after lane.Read = StoppedUnread input rest before after
LanesStopped journal input rest before after lane.Write = StoppedInRefusal input before after ⊎ StoppedInLanes journal input before after
LanesStopped journal input rest before after lane.Memory = Appends before after [] ⊎ StoppedInLanes journal input before after

-- the text behind the opening is past the limits of lanes, or a round lacks its line `---`
abbrev pub LanesPastLimits : Option (List ℕ) → Type 0
LanesPastLimits input = IfSome input (λ text. (state : World) × (rest : List ℕ)
    × (spelled text ≡ Ok state) × (text ≡ opening_part text ++ rest) × ¬ IsReadable rest)
