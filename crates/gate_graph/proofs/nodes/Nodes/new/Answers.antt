use Rattle.std.proofs.Common.{◌≡◌, ◌∙◌, get_or, false, ap, sym, subst, refl, arith, length, true}
use Rattle.gate_graph.specs.Families.{are_apart}
use Rattle.gate_bytes.proofs.Members.{not_in_none}
use Rattle.gate_graph.specs.Holding.{nodes_of}
use Rattle.gate_graph.specs.Linking.{IsLinked}
use Rattle.gate_graph.specs.Weighing.{AreSmall, IsWeighed}
use Rattle.gate_graph.proofs.Putting.{IsLinked-none}
use Rattle.gate_graph.proofs.nodes.Nodes.new.Goals as goal

pub invariant_of-result : goal.invariant_of-result
invariant_of-result g c =
    let none = sym c.new.ensures.held in (
      record {
        apart = subst (λ l. are_apart (nodes_of l) ≡ true) none refl;
        linked = subst (λ l. IsLinked (nodes_of l) c.new-2.result) none (IsLinked-none c.new-2.result c.new-2.ensures.counts);
        weighed = subst IsWeighed none (record { totals = λ h m. not_in_none h m });
        small = subst (λ l. AreSmall (nodes_of l)) none (record { size = λ n m. not_in_none n m; fee = λ n m. not_in_none n m });
        found_room = omega (arith, ap length c.new.ensures.held);
        above_room = omega (arith, ap length c.new.ensures.held);
      },
      record {
        slots_room = omega arith;
        lists_room = omega arith;
        found_more = omega (arith, ap length c.new.ensures.held);
        above_more = omega (arith, ap length c.new.ensures.held);
      },
      record {
        clear = record { len = ap length c.new-3.ensures.items ∙ sym (ap length c.new.ensures.spots); clear = λ p. ap (λ l. get_or l p false) c.new-3.ensures.items };
        more = λ l. absurd (omega (arith, l));
      },
    )
