-- What a pool is made of while it is taken back to what it was when its log began.
use Rattle.std.specs.Prelude.{◌≡◌, ◌≤◌, ℕ, List, length, Option, None}
use Rattle.gate_tx.specs.declared.OutPoint.{OutPoint}
use Rattle.gate_graph.specs.declared.held.Gone.{Gone}
use Rattle.gate_graph.specs.Holding.{Carried}
use Rattle.gate_graph.specs.Slots.{at}
use Rattle.gate_pool.specs.Arrivals.{Arrived, HaveArrived}
use Rattle.gate_pool.specs.Keeping.{entries_in, HasPlaces, IsCarried, IsIndexed}
use Rattle.gate_pool.specs.Log.{before_of, loads_of, IsLog}
use Rattle.gate_pool.specs.Pool.{Admitted, room_of}

-- entries on nodes, with their indexes
pub record IsStored (nodes : Carried Admitted) (by_wtxid : List ℕ → Option (List ℕ)) (by_point : OutPoint → Option (List ℕ)) : Type 0 where
  pub carried : IsCarried nodes.nodes
  pub indexed : IsIndexed (entries_in nodes.nodes) by_wtxid by_point

-- what the log of some nodes is, and the entries that there were when it began
abbrev pub IsLogOf : Carried Admitted → List (Gone Admitted) → ℕ → Type 0
IsLogOf nodes log mark = IsLog (entries_in nodes.nodes) nodes.places log mark

abbrev pub began : Carried Admitted → List (Gone Admitted) → ℕ → List Admitted
began nodes log mark = before_of (entries_in nodes.nodes) nodes.places log mark

-- whatever the log of nodes was, it still is, and began with the same entries
abbrev pub KeepsLogs : Carried Admitted → Carried Admitted → ℕ → Type 0
KeepsLogs old new mark = (log : List (Gone Admitted)) → IsLogOf old log mark → IsLogOf new log mark × (began new log mark ≡ began old log mark)

-- nothing stands at the mark or past it
abbrev pub IsEarly : List (Option (List ℕ)) → ℕ → Type 0
IsEarly places mark = (place : ℕ) → mark ≤ place → at places place ≡ None

-- all that has come since the log began has left, and there is room for what is still in the log
pub record IsRewinding (nodes : Carried Admitted) (wtxid_spare point_spare : ℕ) (arrivals : Arrived) (log : List (Gone Admitted)) (mark : ℕ) : Type 0 where
  pub logged : IsLogOf nodes log mark
  pub early : IsEarly nodes.places mark
  pub places : HasPlaces (room_of (loads_of log)).entries (room_of (loads_of log)).inputs nodes.room nodes.names wtxid_spare point_spare
  pub arrived : HaveArrived (entries_in nodes.nodes) arrivals.list
  pub arrivals_room : length log ≤ arrivals.room
