use Rattle.std.proofs.Common.{◌≡◌, ◌∙◌, sym, ap, Some}
use Rattle.std.specs.Prelude.{find}
use Rattle.gate_graph.specs.Families.{has}
use Rattle.gate_graph.specs.Holding.{Carried, has_id, nodes_in}
use Rattle.gate_graph.specs.Weighing.{totals_of}
use Rattle.gate_graph.proofs.Loading.{nodes_loaded, totals_found}
use Rattle.gate_graph.proofs.Marking.{id_from, filled}
use Rattle.gate_graph.proofs.nodes.Nodes.totals_near.Goals as goal

pub at-requires : goal.at-requires
at-requires g c = filled c.self.inside.slots.spots c.in-Some.place c.args.id.now c.in-Some.ensures.sound

pub returns-in-Some-clause-found : goal.returns-in-Some-clause-found
returns-in-Some-clause-found g c =
    let hs = c.self.inside.slots.held in
    let x = c.args.id.now in
    c.in-Some.ensures.has ∙ ap (λ l. has l x) (sym (nodes_loaded hs)) ∙ ap (λ (l : Carried g.row.T.Denot). has (nodes_in l.nodes) x) c.self.view_is

pub returns-in-Some-clause-totals : goal.returns-in-Some-clause-totals
returns-in-Some-clause-totals g c =
    let hs = c.self.inside.slots.held in
    let x = c.args.id.now in
    let found : find (λ h. has_id h x) hs ≡ Some c.at.result.now = ap (λ y. find (λ h. has_id h y) hs) (sym (id_from c.self.inside.slots.spots c.in-Some.place x c.in-Some.ensures.sound)) ∙ c.at.ensures in
    totals_found hs x c.at.result.now c.self.invariant.0.weighed found ∙ ap (λ (l : Carried g.row.T.Denot). totals_of (nodes_in l.nodes) x) c.self.view_is

pub returns-in-None-clause-found : goal.returns-in-None-clause-found
returns-in-None-clause-found g c =
    let hs = c.self.inside.slots.held in
    let x = c.args.id.now in
    c.in-None.ensures.has ∙ ap (λ l. has l x) (sym (nodes_loaded hs)) ∙ ap (λ (l : Carried g.row.T.Denot). has (nodes_in l.nodes) x) c.self.view_is
