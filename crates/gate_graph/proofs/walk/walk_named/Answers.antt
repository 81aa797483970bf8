use Rattle.std.proofs.Common.{sym, ap, subst}
use Rattle.gate_graph.specs.Holding.{ids_at, nodes_of}
use Rattle.gate_graph.specs.Walking.{AreFound, Next, IsSearch}
use Rattle.gate_graph.specs.declared.walk.Way.TheVariants.{Down}
use Rattle.gate_graph.proofs.Finding.{begins_next, AreFound-same}
use Rattle.gate_graph.proofs.Marking.{IsSearch-none}
use Rattle.gate_graph.proofs.walk.walk_named.Goals as goal

pub add_listed-requires-clause-search : goal.add_listed-requires-clause-search
add_listed-requires-clause-search g c =
    subst (IsSearch (nodes_of c.args.slots.now.held) c.args.slots.now.spots c.args.marks.now.items) (sym c.clear.ensures.items) (IsSearch-none (nodes_of c.args.slots.now.held) c.args.slots.now.spots c.args.marks.now.items c.requires.clear)

pub returns-clause-led : goal.returns-clause-led
returns-clause-led g c =
    let ns = nodes_of c.args.slots.now.held in
    let spots = c.args.slots.now.spots in
    let x = c.args.id.now in
    let links = c.requires.linked in
    c.follow.ensures.led x (begins_next Down ns x (ids_at spots c.add_listed.new.found.items) c.requires.none
    (subst (λ l. AreFound (Next Down ns x) l (ids_at spots c.add_listed.new.found.items)) (ap (ids_at spots) c.clear.ensures.items)
    (AreFound-same (λ b p. ((links.linked x b).0 p.0, p.1)) (λ b p. ((links.linked x b).1 p.0, p.1)) c.add_listed.ensures.found)))
