use Rattle.std.proofs.Common.{◌≤◌, ◌+◌, length, take}
use Rattle.gate_pool.specs.Arrivals.{HaveArrived}
use Rattle.gate_pool.specs.Places.{standing}
use Rattle.gate_pool.proofs.arrivals.Arrivals.list_anew.Given as goal

abbrev pub invariant-loop-slot : goal.invariant-loop-slot
invariant-loop-slot l = record {
  arrived : HaveArrived (standing (take l.slot-index l.slots)) l.self.list;
  room : length l.fn.self.list + l.fn.self.room ≤ length (standing (take l.slot-index l.slots)) + l.self.room;
}
