use Rattle.std.proofs.Common.{ap, sym, subst, ◌∙◌, ◌≡◌, is_some, true}
use Rattle.std.specs.Prelude.{find}
use Rattle.gate_graph.specs.Slots.{at}
use Rattle.gate_graph.specs.Holding.{has_id, id_at, Stored}
use Rattle.gate_graph.proofs.Placing.{found_at, slot_filled}
use Rattle.gate_graph.proofs.slots.Slots.at.Goals as goal

pub standing-requires : goal.standing-requires
standing-requires g c =
    subst (λ l. is_some (at l c.args.place) ≡ true) (sym c.deref.ensures.value) (slot_filled c.self.inside.slots.items c.args.place (ap (λ (s : Stored g.row.T.Denot). is_some (at s.spots c.args.place)) c.self.view_is ∙ c.requires))

pub returns : goal.returns
returns g c =
    let stands = ap (λ (s : Stored g.row.T.Denot). is_some (at s.spots c.args.place)) c.self.view_is ∙ c.requires in
    ap (λ (s : Stored g.row.T.Denot). find (λ h. has_id h (id_at s.spots c.args.place)) s.held) (sym c.self.view_is)
    ∙ found_at c.self.invariant.0 c.args.place stands
    ∙ rw c.deref.ensures.value at c.standing.ensures
