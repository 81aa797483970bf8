-- A lane whose steps never run out of memory: the replies of a run over the events that its lines spell, each in its place.
use Rattle.std.specs.Prelude.{◌≡◌, ◌≢◌, ℕ, List, take}
use Rattle.std.specs.List.{AllByRecursion}
use Rattle.gate_core.specs.Good.{IsGoodWorld}
use Rattle.gate_core.specs.Runs.{run_of, IsRunApart, KeepsFamilies}
use Rattle.gate_core.specs.World.{World}
use Rattle.gate_lane.specs.LaneEvents.{lane_events, lane_lines}
use Rattle.gate_message.specs.Texts.{reply_text}
use Rattle.gate_message.specs.declared.Event.{Event}
use Rattle.gate_message.specs.declared.Reply.{Reply}
use Rattle.gate_run.specs.Lanes.{Run, fault_memory}

-- the reply lines to these lines, from the answers to their events
abbrev pub lane_replies : ℕ → List (List ℕ) → List Reply → List (List ℕ)
lane_replies number lines answers = lane_lines reply_text number lines answers

-- memory ran out in no step
abbrev pub LacksFault : List (List ℕ) → Type 0
LacksFault replies = AllByRecursion (λ reply. reply ≢ fault_memory) replies

-- At each point of the run over these events the state is good, each outpoint that an entry spends has a coin, and the families are
-- within the limits of the first state's policy, if the transactions of the run up to there are apart.
abbrev pub StaysGood : World → List Event → Type 0
StaysGood w events = (n : ℕ) → IsRunApart w (take n events)
    → IsGoodWorld (run_of w (take n events)).1 × KeepsFamilies w.policy (run_of w (take n events)).1

-- The reply lines are those of the run over the events, and the state is the run's. From a good state it stays good.
abbrev pub LanesAreRuns : Type 0
LanesAreRuns =
    (old : World) (lines replies : List (List ℕ)) (new : World) → Run 0 old lines replies new → LacksFault replies
    → (replies ≡ lane_replies 0 lines (run_of old (lane_events 0 lines)).0) × (new ≡ (run_of old (lane_events 0 lines)).1)
    × (IsGoodWorld old → StaysGood old (lane_events 0 lines))
