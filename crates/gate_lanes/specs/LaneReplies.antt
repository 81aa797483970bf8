-- The replies of a round that settles: those of one run, over the events of all its lanes.
use Rattle.std.specs.Prelude.{◌≡◌, ◌⊎◌, ℕ, ◌+◌, ◌-◌, ◌<◌, ◌≤◌, List, [], ◌∷◌, length, map, Some, Ok, Err, slice_get}
use Rattle.gate_core.specs.Runs.{run_of}
use Rattle.gate_core.specs.World.{World}
use Rattle.gate_journal.specs.Legal.{entry_limit, events_of}
use Rattle.gate_lane.specs.LaneEvents.{lane_events}
use Rattle.gate_lines.specs.Lines.{lines_of, unlines}
use Rattle.gate_message.specs.declared.event.Event.{Event}
use Rattle.gate_shared.specs.declared.receipt.Receipt.{Receipt}
use Rattle.gate_shared.specs.declared.settle.Settled.{Settled}
use Rattle.gate_lanes.specs.Ends.{Left, lane_over}
use Rattle.gate_lanes.specs.LaneCalls.{Answer, AreAnswered, SomeFull, lane_lines}
use Rattle.gate_lanes.specs.Rounds.{RoundLeft, RoundRan}
use Rattle.gate_lanes.specs.declared.round.Conclusion.TheVariants as conclusions

-- ---- one lane

-- the receipt has the number of this event in the run over all of these events, from 1, and the run's reply to it
abbrev pub IsOfTheRun : World → List Event → Event → Receipt → Type 0
IsOfTheRun w all event receipt =
    (slice_get all (receipt.number - 1) ≡ Some event) × (slice_get (run_of w all).0 (receipt.number - 1) ≡ Some receipt.reply)

-- the answers to these events in turn: receipts of the run over all events, with numbers that rise from above n, and faults of the
-- events that were not called
abbrev pub AreOfTheRun : World → List Event → ℕ → List Event → List Answer → Type 0
AreOfTheRun w all n [] [] = Unit {0}
AreOfTheRun w all n [] (answer ∷ answers) = ⊥
AreOfTheRun w all n (event ∷ events) [] = ⊥
AreOfTheRun w all n (event ∷ events) (Ok receipt ∷ answers) =
    (n < receipt.number) × IsOfTheRun w all event receipt × AreOfTheRun w all receipt.number events answers
AreOfTheRun w all n (event ∷ events) (Err fault ∷ answers) = AreOfTheRun w all n events answers

-- what a lane over these bytes writes for these answers to its events, with `refused` lines for lines that don't parse
abbrev pub lane_text : List ℕ → List Answer → List ℕ
lane_text lane answers = unlines (lane_lines 0 (lines_of lane) answers)

-- ---- the lanes of a round

-- what each lane writes, for the answers to its events
abbrev pub lane_texts : List (List ℕ) → List (List Answer) → List (List ℕ)
lane_texts [] answers = []
lane_texts (lane ∷ lanes) [] = []
lane_texts (lane ∷ lanes) (answers ∷ more) = lane_text lane answers ∷ lane_texts lanes more

-- the answers to the events of each lane are of the run over all events
abbrev pub EachOfTheRun : World → List Event → List (List ℕ) → List (List Answer) → Type 0
EachOfTheRun w all [] [] = Unit {0}
EachOfTheRun w all [] (answers ∷ more) = ⊥
EachOfTheRun w all (lane ∷ lanes) [] = ⊥
EachOfTheRun w all (lane ∷ lanes) (answers ∷ more) = AreOfTheRun w all 0 (lane_events 0 (lines_of lane)) answers × EachOfTheRun w all lanes more

-- one of the answers is a receipt of this number
abbrev pub HasReceipt : ℕ → List Answer → Type 0
HasReceipt number [] = ⊥
HasReceipt number (Ok receipt ∷ answers) = (receipt.number ≡ number) ⊎ HasReceipt number answers
HasReceipt number (Err fault ∷ answers) = HasReceipt number answers

abbrev pub SomeHasReceipt : ℕ → List (List Answer) → Type 0
SomeHasReceipt number [] = ⊥
SomeHasReceipt number (answers ∷ more) = HasReceipt number answers ⊎ SomeHasReceipt number more

-- how many of the answers are receipts
abbrev pub receipts_of : List Answer → ℕ
receipts_of [] = 0
receipts_of (Ok receipt ∷ answers) = receipts_of answers + 1
receipts_of (Err fault ∷ answers) = receipts_of answers

abbrev pub receipts_in : List (List Answer) → ℕ
receipts_in [] = 0
receipts_in (answers ∷ more) = receipts_of answers + receipts_in more

-- the events of each lane are answered as a pass of one caller answers them
abbrev pub EachAnswered : List (List ℕ) → List (List Answer) → Type 0
EachAnswered [] [] = Unit {0}
EachAnswered [] (answers ∷ more) = ⊥
EachAnswered (lane ∷ lanes) [] = ⊥
EachAnswered (lane ∷ lanes) (answers ∷ more) = AreAnswered (lane_events 0 (lines_of lane)) answers × EachAnswered lanes more

-- one of the lanes is answered that the journal is full
abbrev pub SomeToldFull : List (List Answer) → Type 0
SomeToldFull [] = ⊥
SomeToldFull (answers ∷ more) = SomeFull answers ⊎ SomeToldFull more

-- These texts are what the lanes write for answers that are of the run over all events. Each of those events is one of a lane,
-- whose answer is its receipt, and of one lane alone, since there are as many receipts as events. A fault is `wrong-caller` exactly
-- for an event of another caller's than that of the lane's first, and `pass-full` exactly for one of its own after 65,536 calls. It is
-- never `history-short`, and `audit-full` only if there are 100,000 events.
pub record RepliesAsTheRun (w : World) (all : List Event) (lanes texts : List (List ℕ)) : Type 0 where
  pub answers : List (List Answer)
  pub written : texts ≡ lane_texts lanes answers
  pub each : EachOfTheRun w all lanes answers
  pub every : (k : ℕ) → k < length all → SomeHasReceipt (k + 1) answers
  pub count : receipts_in answers ≡ length all
  pub faults : EachAnswered lanes answers
  pub full : SomeToldFull answers → entry_limit ≤ length all

-- In a round that settles and is whole, the lanes write the replies of one run, over the events of the journal: those that the run
-- gives at the numbers of their receipts, which rise in each lane, with `refused` lines for lines that don't parse and `fault`
-- lines for events that were not called. Each event of the run is one event of one lane.
abbrev pub LanesReplyAsTheRun : Type 0
LanesReplyAsTheRun =
    (w next : World) (lanes texts : List (List ℕ)) (round : RoundLeft) (settled : Settled)
    → RoundRan w (map lane_over lanes) round (Some next) → round.conclusion ≡ conclusions.Settles settled
    → map (λ (end : Left). end.after) round.ends ≡ map Some texts
    → RepliesAsTheRun w (events_of settled.journal.entries) lanes texts
