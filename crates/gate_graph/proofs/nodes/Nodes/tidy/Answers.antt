use Rattle.std.proofs.Common.{◌≡◌, true, ap, sym, subst, ◌∙◌, arith, length}
use Rattle.gate_graph.specs.Families.{are_apart}
use Rattle.gate_graph.specs.Holding.{Carried, loaded, nodes_of}
use Rattle.gate_graph.specs.Linking.{IsLinked}
use Rattle.gate_graph.specs.Weighing.{AreSmall, IsWeighed}
use Rattle.gate_graph.proofs.nodes.Nodes.tidy.Goals as goal

pub invariant_of-self : goal.invariant_of-self
invariant_of-self g c =
    let same = sym c.tidy.ensures.held in (
      record {
        apart = subst (λ l. are_apart (nodes_of l) ≡ true) same c.self.invariant.0.apart;
        linked = subst (λ l. IsLinked (nodes_of l) c.self.inside.links) same c.self.invariant.0.linked;
        weighed = subst IsWeighed same c.self.invariant.0.weighed;
        small = subst (λ l. AreSmall (nodes_of l)) same c.self.invariant.0.small;
        found_room = omega (arith, c.self.invariant.0.found_room, ap length same);
        above_room = omega (arith, c.self.invariant.0.above_room, ap length same);
      },
      record {
        slots_room = omega arith;
        lists_room = omega arith;
        found_more = omega (arith, c.self.invariant.0.found_room, ap length same);
        above_more = omega (arith, c.self.invariant.0.above_room, ap length same);
      },
      record {
        clear = c.tidy.ensures.clear;
        more = λ l. absurd (omega (arith, l));
      },
    )

pub returns : goal.returns
returns g c = ap loaded c.tidy.ensures.held ∙ ap (λ (l : Carried g.row.T.Denot). l.nodes) c.self.view_is
