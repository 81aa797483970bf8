use Rattle.std.proofs.Common.{rules, is_some}
use Rattle.std.proofs.lemmas.Fn.{filter_same}
use Rattle.gate_graph.specs.declared.held.Held.{Held}
use Rattle.gate_graph.proofs.places.close.Goals as goal

pub returns : goal.returns
returns g c = filter_same _ (is_some {T = Held g.row.T.Denot}) _ (λ x b f' k. search rules) _ _ c.retain.ensures.filtered
