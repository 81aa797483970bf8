use Rattle.std.proofs.Common.{◌≡◌, Some, ap, sym, ◌∙◌, is_some}
use Rattle.std.specs.Str.{bytes_eq}
use Rattle.indexmap.specs.IndexMap.{get}
use Rattle.gate_graph.specs.Families.{has}
use Rattle.gate_graph.specs.Slots.{at, passes}
use Rattle.gate_graph.specs.Holding.{Stored, has_id, nodes_of}
use Rattle.gate_graph.proofs.Placing.{place_sound, place_whole, known_has}
use Rattle.gate_graph.proofs.slots.Slots.place_near.Given.{Over}
use Rattle.gate_graph.proofs.slots.Slots.place_near.Goals as goal

-- what stands there is what the index has
looked_up : (g : Over) (c : goal.Then-stands_at g) → get bytes_eq c.self.inside.places c.args.id.now ≡ Some c.in-Some.place
looked_up g c =
    c.self.invariant.0.places.whole c.args.id.now c.in-Some.place
    (ap (λ l. passes (λ h. has_id h c.args.id.now) (at l c.in-Some.place)) (sym c.deref.ensures.value) ∙ sym c.stands_at.ensures ∙ c.if-stands_at.true)

pub returns-then-stands_at-clause-sound : goal.returns-then-stands_at-clause-sound
returns-then-stands_at-clause-sound g c =
    ap (λ (s : Stored g.row.T.Denot). at s.spots c.in-Some.place) (sym c.self.view_is) ∙ place_sound c.self.invariant.0 c.args.id.now c.in-Some.place (looked_up g c)

pub returns-then-stands_at-clause-whole : goal.returns-then-stands_at-clause-whole
returns-then-stands_at-clause-whole g c p e =
    sym (looked_up g c) ∙ place_whole c.self.invariant.0 c.args.id.now p (ap (λ (s : Stored g.row.T.Denot). at s.spots p) c.self.view_is ∙ e)

pub returns-then-stands_at-clause-has : goal.returns-then-stands_at-clause-has
returns-then-stands_at-clause-has g c =
    ap is_some (sym (looked_up g c)) ∙ known_has c.self.invariant.0 c.args.id.now ∙ ap (λ (s : Stored g.row.T.Denot). has (nodes_of s.held) c.args.id.now) c.self.view_is
