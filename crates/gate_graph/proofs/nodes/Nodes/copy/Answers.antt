use Rattle.std.proofs.Common.{◌≡◌, ◌∙◌, sym, ap, subst, arith}
use Rattle.std.specs.Prelude.{sum_by}
use Rattle.gate_graph.specs.Families.{are_apart}
use Rattle.gate_graph.specs.Holding.{Carried, nodes_of, seen_of}
use Rattle.gate_graph.specs.Linking.{IsLinked}
use Rattle.gate_graph.specs.Walking.{AreClear}
use Rattle.gate_graph.specs.Weighing.{AreSmall}
use Rattle.gate_graph.proofs.Copying.{same_nodes, same_loaded, same_weighed}
use Rattle.gate_graph.proofs.Putting.{IsLinked-none}
use Rattle.gate_graph.proofs.nodes.Nodes.copy.Goals as goal

pub copy_each-requires-clause-apart : goal.copy_each-requires-clause-apart
copy_each-requires-clause-apart g c = ap (λ l. are_apart (nodes_of l)) c.as_slice.ensures.held ∙ c.self.invariant.0.apart

pub copy_each-requires-clause-fits : goal.copy_each-requires-clause-fits
copy_each-requires-clause-fits g c = omega (arith, c.size-size.ensures, c.size-size.type_inv, ap (λ l. sum_by (λ n. n.size) (nodes_of l)) c.as_slice.ensures.held)

pub copy_each-requires-clause-linked : goal.copy_each-requires-clause-linked
copy_each-requires-clause-linked g c = subst (λ l. IsLinked (nodes_of l) c.new-links.result) (sym c.new-slots.ensures.held) (IsLinked-none c.new-links.result c.new-links.ensures.counts)

pub invariant_of-result : goal.invariant_of-result
invariant_of-result g c =
    let hs = c.self.inside.slots.held in
    let hs' = c.copy_each.new.slots.held in
    let same : seen_of hs' ≡ seen_of hs = c.in_ok-copy_each.ensures.copied ∙ ap seen_of c.as_slice.ensures.held in
    let nodes = same_nodes hs hs' same in (
      record {
        apart = ap are_apart nodes ∙ c.self.invariant.0.apart;
        linked = c.in_ok-copy_each.ensures.linked;
        weighed = same_weighed hs hs' same c.self.invariant.0.weighed;
        small = subst AreSmall (sym nodes) c.self.invariant.0.small;
        found_room = omega (arith, c.in_ok-scratch.ensures.found, c.count.ensures);
        above_room = omega (arith, c.in_ok-scratch.ensures.above, c.count.ensures);
      },
      record {
        slots_room = omega arith;
        lists_room = omega arith;
        found_more = omega (arith, c.in_ok-scratch.ensures.found, c.count.ensures);
        above_more = omega (arith, c.in_ok-scratch.ensures.above, c.count.ensures);
      },
      record {
        clear = subst (λ n. AreClear n c.in_ok-scratch.scratch.marks.items) c.len.ensures.len c.in_ok-scratch.ensures.marks;
        more = λ l. absurd (omega (arith, l));
      },
    )

pub returns : goal.returns
returns g c =
    let hs = c.self.inside.slots.held in
    let hs' = c.copy_each.new.slots.held in
    let same : seen_of hs' ≡ seen_of hs = c.in_ok-copy_each.ensures.copied ∙ ap seen_of c.as_slice.ensures.held in
    same_loaded hs hs' same ∙ ap (λ (l : Carried g.row.T.Denot). l.nodes) c.self.view_is
