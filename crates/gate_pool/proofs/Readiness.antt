-- What a pool keeps beside its entries, where some of these were taken out.
use Rattle.std.proofs.Common.{◌≡◌, ◌≤◌, ◌+◌, ℕ, List, Bool, Option, length, sym, ap, ◌∙◌, subst, arith}
use Rattle.std.specs.Prelude.{Contains, filter, IfSome}
use Rattle.std.specs.List.Sorted.{IsPermutation}
use Rattle.std.proofs.lemmas.List.Sorted.{Contains-permutation, IsPermutation-sym}
use Rattle.gate_pool.specs.Pool.{Admitted}
use Rattle.gate_pool.specs.Arrivals.{Arrived, HaveArrived}
use Rattle.gate_pool.specs.Keeping.{HasPlaces, IsReady}
use Rattle.gate_pool.specs.Scores.{AreBounded, least_of}
use Rattle.gate_pool.specs.declared.arrivals.Arrival.{Arrival}
use Rattle.gate_pool.specs.declared.scores.Score.{Score}
use Rattle.gate_pool.proofs.Walking.{Contains-from_filter, shorter}

-- the arrivals of all are those of some
pub HaveArrived-filter : {entries left : List Admitted} {list : List Arrival} (keep : Admitted → Bool) → HaveArrived entries list → left ≡ filter keep entries → HaveArrived left list
HaveArrived-filter {entries} keep have is = record { all = λ e m. have.all e (Contains-from_filter keep entries e (subst (λ l. Contains l e) is m)) }

pub HaveArrived-moved : {entries after : List Admitted} {list : List Arrival} → HaveArrived entries list → IsPermutation entries after → HaveArrived after list
HaveArrived-moved {entries} {after} have moved = record { all = λ e m. have.all e (Contains-permutation after entries e (IsPermutation-sym entries after moved) m) }

pub HaveArrived-same : {entries after : List Admitted} {list : List Arrival} → HaveArrived entries list → after ≡ entries → HaveArrived after list
HaveArrived-same {list = list} have same = subst (λ l. HaveArrived l list) (sym same) have

-- there is no less room then
pub IsReady-filter : {entries left after : List Admitted} {room room' chosen chosen' : ℕ} {arrivals : Arrived} {least least' : Option Score} (keep : Admitted → Bool)
    → IsReady entries room chosen arrivals least → left ≡ filter keep entries → after ≡ left → room' ≤ room → chosen' ≡ chosen
    → least' ≡ least_of after → IfSome least' (λ score. AreBounded score.family) → IsReady after room' chosen' arrivals least'
IsReady-filter {entries} {left} {after} keep ready is same less places score bounded = record {
  chosen_room = omega (arith, shorter keep entries, ap length is, ap length same, ready.chosen_room, places, less);
  arrived = HaveArrived-filter keep ready.arrived (same ∙ is);
  arrivals_room = omega (arith, ready.arrivals_room, less);
  score = score;
  bounded = bounded;
}

-- the same entries, listed with room
pub IsReady-same : {entries after : List Admitted} {room room' chosen chosen' : ℕ} {arrivals arrivals' : Arrived} {least : Option Score}
    → IsReady entries room chosen arrivals least → after ≡ entries → length after + room' ≤ chosen'
    → HaveArrived after arrivals'.list → room' ≤ arrivals'.room → IsReady after room' chosen' arrivals' least
IsReady-same ready same places arrived room = record {
  chosen_room = places;
  arrived = arrived;
  arrivals_room = room;
  score = ready.score ∙ ap least_of (sym same);
  bounded = ready.bounded;
}

-- without room for another
pub HasPlaces-none : {nodes names wtxid_spare point_spare : ℕ} → HasPlaces 0 0 nodes names wtxid_spare point_spare
HasPlaces-none = record {
  nodes_room = omega arith;
  names_room = omega arith;
  wtxids = omega arith;
  points = omega arith;
}

-- no less room than before
pub HasPlaces-more : {room inputs nodes nodes' names names' wtxids wtxids' points points' : ℕ} → HasPlaces room inputs nodes names wtxids points → nodes ≤ nodes' → names ≤ names' → wtxids ≤ wtxids' → points ≤ points'
    → HasPlaces room inputs nodes' names' wtxids' points'
HasPlaces-more has a b c d = record {
  nodes_room = omega (arith, has.nodes_room, a);
  names_room = omega (arith, has.names_room, b);
  wtxids = omega (arith, has.wtxids, c);
  points = omega (arith, has.points, d);
}
