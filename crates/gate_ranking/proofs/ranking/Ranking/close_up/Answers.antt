use Rattle.std.proofs.Common.{rules, is_some, ap, ◌∙◌}
use Rattle.std.specs.Prelude.{filter}
use Rattle.std.proofs.lemmas.Fn.{filter_same}
use Rattle.gate_ranking.specs.Ranking.{Ranked}
use Rattle.gate_ranking.proofs.ranking.Ranking.close_up.Goals as goal

pub returns-clause-keys : goal.returns-clause-keys
returns-clause-keys g c =
    filter_same _ (is_some {T = g.row.K.Denot}) _ (λ x b f' k. search rules) _ _ c.retain.ensures.filtered ∙ ap (λ (r : Ranked g.row.K.Denot). filter is_some r.keys) c.self.view_is
