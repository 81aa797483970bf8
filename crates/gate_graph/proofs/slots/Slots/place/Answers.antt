use Rattle.std.proofs.Common.{ap, sym, ◌∙◌, is_some}
use Rattle.gate_graph.specs.Families.{has}
use Rattle.gate_graph.specs.Slots.{at}
use Rattle.gate_graph.specs.Holding.{Stored, nodes_of}
use Rattle.gate_graph.proofs.Placing.{place_sound, place_whole, known_has}
use Rattle.gate_graph.proofs.slots.Slots.place.Goals as goal

pub returns-in-Some-clause-sound : goal.returns-in-Some-clause-sound
returns-in-Some-clause-sound g c =
    ap (λ (s : Stored g.row.T.Denot). at s.spots c.in-Some.place.now) (sym c.self.view_is) ∙ place_sound c.self.invariant.0 c.args.id.now c.in-Some.place.now (sym c.in-Some.ensures.value)

pub returns-in-Some-clause-whole : goal.returns-in-Some-clause-whole
returns-in-Some-clause-whole g c p e =
    c.in-Some.ensures.value ∙ place_whole c.self.invariant.0 c.args.id.now p (ap (λ (s : Stored g.row.T.Denot). at s.spots p) c.self.view_is ∙ e)

pub returns-in-Some-clause-has : goal.returns-in-Some-clause-has
returns-in-Some-clause-has g c =
    ap is_some c.in-Some.ensures.value ∙ known_has c.self.invariant.0 c.args.id.now ∙ ap (λ (s : Stored g.row.T.Denot). has (nodes_of s.held) c.args.id.now) c.self.view_is

pub returns-in-None-clause-whole : goal.returns-in-None-clause-whole
returns-in-None-clause-whole g c p e =
    c.in-None.ensures.value ∙ place_whole c.self.invariant.0 c.args.id.now p (ap (λ (s : Stored g.row.T.Denot). at s.spots p) c.self.view_is ∙ e)

pub returns-in-None-clause-has : goal.returns-in-None-clause-has
returns-in-None-clause-has g c =
    ap is_some c.in-None.ensures.value ∙ known_has c.self.invariant.0 c.args.id.now ∙ ap (λ (s : Stored g.row.T.Denot). has (nodes_of s.held) c.args.id.now) c.self.view_is
