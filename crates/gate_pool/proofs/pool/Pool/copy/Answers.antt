use Rattle.std.proofs.Common.{ap, length, arith}
use Rattle.gate_pool.proofs.Readiness.{HaveArrived-same, IsReady-same}
use Rattle.gate_pool.proofs.pool.Pool.copy.Goals as goal

pub invariant_of-result : goal.invariant_of-result
invariant_of-result g c =
    IsReady-same c.self.invariant c.in_ok-store.ensures.entries
    (omega (arith, c.count.ensures, ap length c.in_ok-store.ensures.entries, c.in_ok-chosen.ensures.capacity, c.in_ok-store.ensures.room))
    (HaveArrived-same c.in_ok-arrivals.ensures c.in_ok-store.ensures.entries) (omega (arith, c.in_ok-store.ensures.room))
