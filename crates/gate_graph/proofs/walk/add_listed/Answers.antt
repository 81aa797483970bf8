use Rattle.std.proofs.Common.{sym, ◌∙◌, length, rules, refl, ◌≤◌, ◌<◌}
use Rattle.gate_graph.specs.Holding.{ids_at, nodes_of}
use Rattle.gate_graph.specs.Linking.{listing}
use Rattle.gate_graph.proofs.Finding.{one_more, none_looked_at, all_looked_at}
use Rattle.gate_graph.proofs.walk.add_listed.Goals as goal

pub loop-number-init : goal.loop-number-init
loop-number-init g c = record {
  search = c.requires.search;
  found = none_looked_at (nodes_of c.args.slots.now.held) (ids_at c.args.slots.now.spots c.args.found.now.items);
  capacity = refl;
  marks = refl;
}

pub loop-number-preserved : goal.loop-number-preserved
loop-number-preserved g c =
    let ids = listing c.args.links.now c.args.id.now in
    let i = c.loop-number.number in
    let lt : i < length ids = search rules in
    record {
      search = c.add.ensures.search;
      found = one_more (nodes_of c.args.slots.now.held) ids i c.at-child.result.now lt (sym c.at-child.ensures) c.loop-number.invariant.found c.add.ensures.found;
      capacity = c.add.ensures.capacity ∙ c.loop-number.invariant.capacity;
      marks = c.add.ensures.marks ∙ c.loop-number.invariant.marks;
    }

pub returns-clause-found : goal.returns-clause-found
returns-clause-found g c =
    let ids = listing c.args.links.now c.args.id.now in
    let i = c.loop-number.number in
    let end : length ids ≤ i = search rules in
    all_looked_at (nodes_of c.args.slots.now.held) ids i end c.loop-number.invariant.found
