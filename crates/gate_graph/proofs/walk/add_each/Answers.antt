use Rattle.std.proofs.Common.{sym, ◌∙◌, length, rules, refl, ◌≤◌}
use Rattle.gate_graph.specs.Holding.{ids_at, nodes_of}
use Rattle.gate_graph.proofs.Finding.{one_more, none_looked_at, all_looked_at}
use Rattle.gate_graph.proofs.walk.add_each.Goals as goal

pub loop-id-init : goal.loop-id-init
loop-id-init g c = record {
  search = c.requires.search;
  found = none_looked_at (nodes_of c.args.slots.now.held) (ids_at c.args.slots.now.spots c.args.found.now.items);
  capacity = refl;
  marks = refl;
}

pub loop-id-preserved : goal.loop-id-preserved
loop-id-preserved g c =
    let ids = c.args.ids.now in
    let i = c.loop-id.id-index in
    record {
      search = c.add.ensures.search;
      found = one_more (nodes_of c.args.slots.now.held) ids i c.id-item.result c.loop-id-test.true (sym c.id-item.is) c.loop-id.invariant.found c.add.ensures.found;
      capacity = c.add.ensures.capacity ∙ c.loop-id.invariant.capacity;
      marks = c.add.ensures.marks ∙ c.loop-id.invariant.marks;
    }

pub returns-clause-found : goal.returns-clause-found
returns-clause-found g c =
    let ids = c.args.ids.now in
    let i = c.loop-id.id-index in
    let end : length ids ≤ i = search rules in
    all_looked_at (nodes_of c.args.slots.now.held) ids i end c.loop-id.invariant.found
