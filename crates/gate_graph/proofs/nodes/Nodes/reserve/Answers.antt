use Rattle.std.proofs.Common.{◌≡◌, ◌≤◌, ◌<◌, ◌+◌, ℕ, zero, suc, refl, ap, sym, subst, arith, length}
use Rattle.std.specs.Prelude.{max}
use Rattle.gate_graph.specs.Walking.{AreClear}
use Rattle.gate_graph.proofs.Putting.{IsKept-same}
use Rattle.gate_graph.proofs.nodes.Nodes.reserve.Goals as goal

pub invariant_of-self : goal.invariant_of-self
invariant_of-self g c = (
  IsKept-same _ _ c.self.inside.links c.self.inside.links _ _ _ _ refl refl refl c.reserve.ensures.found c.reserve.ensures.above c.self.invariant.0,
  record {
    slots_room = c.self.invariant.1.slots_room;
    lists_room = c.self.invariant.1.lists_room;
    found_more = omega (arith, c.self.invariant.1.found_more, c.reserve.ensures.found);
    above_more = omega (arith, c.self.invariant.1.above_more, c.reserve.ensures.above);
  },
  record {
    clear = subst (AreClear (length c.self.inside.slots.spots)) (sym c.reserve.ensures.marks) c.self.invariant.2.clear;
    more = λ l. omega (arith, c.self.invariant.2.more l, c.reserve.ensures.kept);
  },
)

pub invariant_of-self-in_err-reserve-2 : goal.invariant_of-self-in_err-reserve-2
invariant_of-self-in_err-reserve-2 g c = (
  IsKept-same _ _ c.self.inside.links c.reserve-2.new.self _ _ _ _ refl c.reserve-2.ensures.links c.reserve-2.ensures.counts c.reserve.ensures.found c.reserve.ensures.above c.self.invariant.0,
  record {
    slots_room = c.self.invariant.1.slots_room;
    lists_room = omega (arith, c.self.invariant.1.lists_room, c.reserve-2.ensures.kept);
    found_more = omega (arith, c.self.invariant.1.found_more, c.reserve.ensures.found);
    above_more = omega (arith, c.self.invariant.1.above_more, c.reserve.ensures.above);
  },
  record {
    clear = subst (AreClear (length c.self.inside.slots.spots)) (sym c.reserve.ensures.marks) c.self.invariant.2.clear;
    more = λ l. omega (arith, c.self.invariant.2.more l, c.reserve.ensures.kept);
  },
)

pub invariant_of-self-in_err-reserve-3 : goal.invariant_of-self-in_err-reserve-3
invariant_of-self-in_err-reserve-3 g c = (
  IsKept-same _ _ c.self.inside.links c.reserve-2.new.self _ _ _ _ c.reserve-3.ensures.held c.reserve-2.ensures.links c.reserve-2.ensures.counts c.reserve.ensures.found c.reserve.ensures.above c.self.invariant.0,
  record {
    slots_room = omega (arith, c.self.invariant.1.slots_room, c.reserve-3.ensures.kept);
    lists_room = omega (arith, c.self.invariant.1.lists_room, c.reserve-2.ensures.kept);
    found_more = omega (arith, c.self.invariant.1.found_more, c.reserve.ensures.found, ap length c.reserve-3.ensures.held);
    above_more = omega (arith, c.self.invariant.1.above_more, c.reserve.ensures.above, ap length c.reserve-3.ensures.held);
  },
  record {
    clear = subst (λ s. AreClear (length s) c.reserve.new.self.marks.items) (sym c.reserve-3.ensures.spots) (subst (AreClear (length c.self.inside.slots.spots)) (sym c.reserve.ensures.marks) c.self.invariant.2.clear);
    more = λ l. omega (arith, c.self.invariant.2.more l, c.reserve.ensures.kept, ap length c.reserve-3.ensures.spots);
  },
)

-- there is room for the greater of two numbers, if there is for each
more_of : (room nodes slots slots' capacity capacity' : ℕ) → (0 < room → slots + room ≤ capacity) → capacity ≤ capacity' → slots + nodes ≤ capacity' → slots' ≡ slots → {most : ℕ} → most ≡ max room nodes → 0 < most → slots' + most ≤ capacity'
more_of zero nodes slots slots' capacity capacity' before kept more same is l = omega (arith, more, same, is)
more_of (suc r) nodes slots slots' capacity capacity' before kept more same is l = omega (arith, before (omega arith), kept, more, same, is)

pub invariant_of-self-2 : goal.invariant_of-self-2
invariant_of-self-2 g c = (
  IsKept-same _ _ c.self.inside.links c.reserve-2.new.self _ _ _ _ c.reserve-3.ensures.held c.reserve-2.ensures.links c.reserve-2.ensures.counts c.reserve.ensures.found c.reserve.ensures.above c.self.invariant.0,
  record {
    slots_room = omega (arith, c.self.invariant.1.slots_room, c.reserve-3.ensures.kept, c.in_ok-reserve-3.ensures.room, c.max-self-inside.ensures);
    lists_room = omega (arith, c.self.invariant.1.lists_room, c.reserve-2.ensures.kept, c.in_ok-reserve-2.ensures.room, c.max-self-inside-2.ensures);
    found_more = omega (arith, ap length c.reserve-3.ensures.held, c.self.invariant.1.found_more, c.reserve.ensures.found, c.in_ok-reserve.ensures.found_room, c.in-Some.ensures, c.count.ensures, c.max-self-inside.ensures);
    above_more = omega (arith, ap length c.reserve-3.ensures.held, c.self.invariant.1.above_more, c.reserve.ensures.above, c.in_ok-reserve.ensures.above_room, c.in-Some.ensures, c.count.ensures, c.max-self-inside.ensures);
  },
  record {
    clear = subst (λ s. AreClear (length s) c.reserve.new.self.marks.items) (sym c.reserve-3.ensures.spots) (subst (AreClear (length c.self.inside.slots.spots)) (sym c.reserve.ensures.marks) c.self.invariant.2.clear);
    more = λ l. more_of c.self.inside.room c.args.nodes _ _ _ _ c.self.invariant.2.more c.reserve.ensures.kept (omega (arith, c.self.invariant.2.clear.len, c.in_ok-reserve.ensures.mark)) (ap length c.reserve-3.ensures.spots) c.max-self-inside.ensures l;
  },
)
