use Rattle.std.proofs.Common.{◌≡◌, Some, None, ap, sym, subst, ◌∙◌, length, arith}
use Rattle.std.specs.Prelude.{slice_set}
use Rattle.std.specs.List.Sorted.{IsPermutation}
use Rattle.std.proofs.lemmas.List.Sorted.{IsPermutation-map, length_permutation}
use Rattle.std.proofs.lemmas.List.{length-set}
use Rattle.gate_graph.specs.declared.held.Held.{Held}
use Rattle.gate_graph.specs.Holding.{Carried, node_of, loaded}
use Rattle.gate_graph.specs.Slots.{at}
use Rattle.gate_graph.specs.Walking.{AreClear}
use Rattle.gate_graph.proofs.Permuting.{permuted_kept}
use Rattle.gate_graph.proofs.Relocating.{put_in_hole}
use Rattle.gate_graph.proofs.nodes.Nodes.put_back.Given.{Over}
use Rattle.gate_graph.proofs.nodes.Nodes.put_back.Goals.{After-relocate}
use Rattle.gate_graph.proofs.nodes.Nodes.put_back.Goals as goal

-- there are as many places
as_many : (g : Over) (c : After-relocate g) → length c.relocate.new.self.spots ≡ length c.self-2.inside.slots.spots
as_many g c = ap length c.relocate.ensures.spots ∙ length-set _ c.args.place _ ∙ length-set c.self-2.inside.slots.spots c.len-end.result None

pub invariant_of-self : goal.invariant_of-self
invariant_of-self g c =
    let same = as_many g (goal.at.invariant_of-self g c).After-relocate in
    let len = length_permutation c.self-2.inside.slots.held c.relocate.new.self.held c.relocate.ensures.held in (
      permuted_kept c.self-2.inside.slots.held c.relocate.new.self.held c.self-2.inside.links _ _ c.relocate.ensures.held c.self-2.invariant.0,
      record {
        slots_room = omega (arith, c.self-2.invariant.1.slots_room, c.relocate.ensures.room);
        lists_room = c.self-2.invariant.1.lists_room;
        found_more = omega (arith, c.self-2.invariant.1.found_more, len);
        above_more = omega (arith, c.self-2.invariant.1.above_more, len);
      },
      record {
        clear = subst (λ n. AreClear n c.self-2.inside.scratch.marks.items) (sym same) c.self-2.invariant.2.clear;
        more = λ l. omega (arith, c.self-2.invariant.2.more l, same);
      },
    )

pub returns-clause-nodes : goal.returns-clause-nodes
returns-clause-nodes g c =
    subst (λ l. IsPermutation l (loaded c.relocate.new.self.held)) (ap (λ (l : Carried g.row.T.Denot). l.nodes) c.self-2.view_is ∙ c.put.ensures.nodes)
    (IsPermutation-map (λ (h : Held g.row.T.Denot). (node_of h, h.load)) c.self-2.inside.slots.held c.relocate.new.self.held c.relocate.ensures.held)

pub returns-clause-places : goal.returns-clause-places
returns-clause-places g c =
    let old = c.args.self.now.places in
    let end = c.len-end.ensures.len ∙ ap (λ (l : Carried g.row.T.Denot). length l.places) c.self.view_is in
    let there = ap (λ (l : Carried g.row.T.Denot). l.places) c.self-2.view_is ∙ c.put.ensures.places in
    c.relocate.ensures.spots ∙ ap (λ s. slice_set (slice_set s c.len-end.result None) c.args.place (at s c.len-end.result)) there ∙ put_in_hole old c.args.place c.len-end.result (Some c.args.id) end c.requires.within
