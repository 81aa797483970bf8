use Rattle.std.proofs.Common.{◌≡◌, true, ap, sym, subst, ◌∙◌, is_some}
use Rattle.gate_ranking.specs.Rate.{rate_cmp}
use Rattle.gate_ranking.specs.Lesser.{least_by}
use Rattle.gate_graph.specs.Slots.{at}
use Rattle.gate_graph.specs.Holding.{Stored}
use Rattle.gate_graph.specs.Ranks.{rate_of}
use Rattle.gate_graph.proofs.Ranks.{least_at, least_none, least_stands}
use Rattle.gate_graph.proofs.slots.Slots.least.Goals as goal

pub standing-requires : goal.standing-requires
standing-requires g c =
    subst (λ l. is_some (at l c.in-Some.place) ≡ true) (sym c.deref.ensures.value) (least_stands c.self.inside.slots.items c.self.inside.ranking.keys c.in-Some.place c.in-Some._rate.now c.self.invariant.2.keys c.in-Some.ensures.some)

pub returns-in-Some : goal.returns-in-Some
returns-in-Some g c =
    let here = rw c.deref.ensures.value at c.standing.ensures in
    least_at c.self.inside.slots.items c.self.inside.ranking.keys c.in-Some.place c.in-Some._rate.now c.standing.result.now c.self.invariant.2.keys c.in-Some.ensures.some here
    ∙ ap (λ (s : Stored g.row.T.Denot). least_by rate_cmp rate_of s.held) c.self.view_is

pub returns-in-None : goal.returns-in-None
returns-in-None g c =
    least_none c.self.inside.slots.items c.self.inside.ranking.keys c.self.invariant.2.keys c.in-None.ensures.none
    ∙ ap (λ (s : Stored g.row.T.Denot). least_by rate_cmp rate_of s.held) c.self.view_is
