use Rattle.std.proofs.Common.{◌≡◌, ap, subst, ◌∙◌, Some}
use Rattle.std.specs.Prelude.{IfSome}
use Rattle.gate_graph.specs.Slots.{at}
use Rattle.gate_graph.specs.Holding.{Carried}
use Rattle.gate_graph.proofs.nodes.Nodes.place.Goals as goal

pub returns-clause-sound : goal.returns-clause-sound
returns-clause-sound g c = subst (λ (l : Carried g.row.T.Denot). IfSome c.place.result (λ place. at l.places place ≡ Some c.args.id.now)) c.self.view_is c.place.ensures.sound

pub returns-clause-whole : goal.returns-clause-whole
returns-clause-whole g c place e = c.place.ensures.whole place (ap (λ (l : Carried g.row.T.Denot). at l.places place) c.self.view_is ∙ e)
