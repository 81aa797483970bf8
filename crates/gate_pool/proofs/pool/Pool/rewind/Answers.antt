use Rattle.std.proofs.Common.{ap, arith}
use Rattle.gate_pool.specs.Pool.{Pooled}
use Rattle.gate_pool.proofs.pool.Pool.rewind.Goals as goal

pub invariant_of-self : goal.invariant_of-self
invariant_of-self g c =
    let back = c.rewind.ensures in
    record {
      chosen_room = omega (arith, c.self.invariant.chosen_room, back.few, back.room, c.requires.entries, ap (λ (p : Pooled). p.left.entries) c.self.view_is, ap (λ (p : Pooled). p.room.entries) c.self.view_is);
      arrived = back.arrived;
      arrivals_room = omega (arith, back.room);
      score = c.least-self-inside.ensures.value;
      bounded = c.least-self-inside.ensures.bounded;
    }
