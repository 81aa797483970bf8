use Rattle.std.proofs.Common.{rules, tests, ◌∙◌, ◌&&◌, ℕ, List}
use Rattle.std.specs.List.{list_any}
use Rattle.std.proofs.lemmas.Fn.{filter_same}
use Rattle.gate_pool.specs.Pool.{Admitted, has_txid}
use Rattle.gate_query.specs.Answers.{pays}
use Rattle.gate_query.proofs.paying.paying_among.Goals as goal

pub returns : goal.returns
returns g c =
    c.from_vec.ensures
    ∙ filter_same _ (λ (id : List ℕ). list_any (λ (e : Admitted). has_txid e id && pays c.args.rate e) c.args.pool.now.entries) _ (λ x b f' k. search (rules, tests)) _ _ c.retain.ensures.filtered
