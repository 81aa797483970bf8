use Rattle.std.proofs.Common.{length, ap, sym, subst, ◌∙◌, arith}
use Rattle.std.proofs.lemmas.List.{length-map}
use Rattle.gate_graph.specs.Family.{reaches, steps_of}
use Rattle.gate_graph.specs.Holding.{Carried, nodes_of, nodes_in, unless, vacated, AreGone}
use Rattle.gate_graph.proofs.Loading.{fewer_left, nodes_loaded}
use Rattle.gate_graph.proofs.nodes.Nodes.take_family.Goals as goal

pub invariant_of-self : goal.invariant_of-self
invariant_of-self g c =
    let fewer = fewer_left c.self.inside.slots.held c.take_family.new.slots.held c.args.id.now c.take_family.ensures.left in (
      record {
        apart = c.take_family.ensures.apart;
        linked = c.take_family.ensures.linked;
        weighed = c.take_family.ensures.weighed;
        small = c.take_family.ensures.small;
        found_room = omega (arith, fewer, c.self.invariant.0.found_room, c.take_family.ensures.found);
        above_room = omega (arith, fewer, c.self.invariant.0.above_room, c.take_family.ensures.above);
      },
      record {
        slots_room = omega (arith, c.self.invariant.1.slots_room, c.take_family.ensures.slots_room);
        lists_room = omega (arith, c.self.invariant.1.lists_room, c.take_family.ensures.links_room);
        found_more = omega (arith, c.self.invariant.1.found_more, fewer, c.take_family.ensures.found);
        above_more = omega (arith, c.self.invariant.1.above_more, fewer, c.take_family.ensures.above);
      },
      record {
        clear = c.take_family.ensures.clear;
        more = λ l. omega (arith, c.self.invariant.2.more l, ap length c.take_family.ensures.spots, length-map c.self.inside.slots.spots (unless (reaches (steps_of (nodes_of c.self.inside.slots.held)) c.args.id.now)), c.take_family.ensures.marks);
      },
    )

pub returns-clause-places : goal.returns-clause-places
returns-clause-places g c =
    c.take_family.ensures.spots
    ∙ ap (λ ns. vacated (reaches (steps_of ns) c.args.id.now) c.self.inside.slots.spots) (sym (nodes_loaded c.self.inside.slots.held))
    ∙ ap (λ (l : Carried g.row.T.Denot). vacated (reaches (steps_of (nodes_in l.nodes)) c.args.id.now) l.places) c.self.view_is

pub returns-clause-gone : goal.returns-clause-gone
returns-clause-gone g c =
    subst (λ (l : Carried g.row.T.Denot). AreGone l.nodes l.places c.args.id.now c.args.gone.now.items c.take_family.new.gone.items) c.self.view_is c.take_family.ensures.gone
