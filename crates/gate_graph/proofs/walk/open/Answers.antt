use Rattle.std.proofs.Common.{sym, subst}
use Rattle.std.specs.Prelude.{Contains}
use Rattle.gate_graph.specs.Holding.{id_at, ids_at, nodes_of}
use Rattle.gate_graph.specs.Walking.{AreFound, Next}
use Rattle.gate_graph.specs.declared.walk.Way.TheVariants.{Down}
use Rattle.gate_graph.proofs.Finding.{AreFound-same}
use Rattle.gate_graph.proofs.Holdings.{find_is, up_next, up_listed}
use Rattle.gate_graph.proofs.walk.open.Goals as goal

pub returns-in-Up-clause-found : goal.returns-in-Up-clause-found
returns-in-Up-clause-found g c =
    let hs = c.args.slots.now.held in
    let spots = c.args.slots.now.spots in
    let x = id_at spots c.args.heading.place in
    let h = c.at-held.result.now in
    let here = c.at-held.ensures in
    subst (λ w. AreFound (Next w (nodes_of hs) x) (ids_at spots c.args.found.now.items) (ids_at spots c.add_each.new.found.items)) (sym c.in-Up.is)
    (AreFound-same
    (λ b p. (up_next hs x h here b (subst (λ l. Contains l b) c.as_slice.ensures.value p.0), p.1))
    (λ b p. (subst (λ l. Contains l b) (sym c.as_slice.ensures.value) (up_listed hs x h c.requires.apart here b p.0), p.1))
    c.add_each.ensures.found)

pub returns-in-Down-clause-found : goal.returns-in-Down-clause-found
returns-in-Down-clause-found g c =
    let hs = c.args.slots.now.held in
    let spots = c.args.slots.now.spots in
    let links = c.requires.linked in
    let h = c.at-held.result.now in
    let x = id_at spots c.args.heading.place in
    let w = find_is hs x h c.at-held.ensures in
    subst (λ w. AreFound (Next w (nodes_of hs) x) (ids_at spots c.args.found.now.items) (ids_at spots c.add_listed.new.found.items)) (sym c.in-Down.is)
    (subst (λ y. AreFound (Next Down (nodes_of hs) y) (ids_at spots c.args.found.now.items) (ids_at spots c.add_listed.new.found.items)) w.1
    (AreFound-same (λ b p. ((links.linked h.id b).0 p.0, p.1)) (λ b p. ((links.linked h.id b).1 p.0, p.1)) c.add_listed.ensures.found))
