use Rattle.std.proofs.Common.{◌≡◌, ◌∙◌, sym, ap, Some, None}
use Rattle.std.specs.Prelude.{find}
use Rattle.std.specs.Option.{option_map}
use Rattle.gate_graph.specs.declared.held.Held.{Held}
use Rattle.gate_graph.specs.Holding.{Carried, has_id, load_in}
use Rattle.gate_graph.proofs.Holdings.{found_has}
use Rattle.gate_graph.proofs.Loading.{load_loaded}
use Rattle.gate_graph.proofs.Marking.{id_from, filled, none_from}
use Rattle.gate_graph.proofs.nodes.Nodes.load_near.Goals as goal

pub at-requires : goal.at-requires
at-requires g c = filled c.self.inside.slots.spots c.in-Some.place c.args.id.now c.in-Some.ensures.sound

pub returns-in-Some : goal.returns-in-Some
returns-in-Some g c =
    let hs = c.self.inside.slots.held in
    let x = c.args.id.now in
    let found : find (λ h. has_id h x) hs ≡ Some c.at.result.now = ap (λ y. find (λ h. has_id h y) hs) (sym (id_from c.self.inside.slots.spots c.in-Some.place x c.in-Some.ensures.sound)) ∙ c.at.ensures in
    ap (option_map (λ (h : Held g.row.T.Denot). h.load)) (sym found) ∙ load_loaded hs x ∙ ap (λ (l : Carried g.row.T.Denot). load_in l.nodes x) c.self.view_is

pub returns-in-None : goal.returns-in-None
returns-in-None g c =
    let hs = c.self.inside.slots.held in
    let x = c.args.id.now in
    let none : find (λ h. has_id h x) hs ≡ None = none_from (find (λ h. has_id h x) hs) (found_has hs x ∙ sym c.in-None.ensures.has) in
    ap (option_map (λ (h : Held g.row.T.Denot). h.load)) (sym none) ∙ load_loaded hs x ∙ ap (λ (l : Carried g.row.T.Denot). load_in l.nodes x) c.self.view_is
