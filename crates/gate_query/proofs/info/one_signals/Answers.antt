use Rattle.std.proofs.Common.{◌∙◌, ◌&&◌, ℕ, List, rules, tests}
use Rattle.std.specs.List.{list_any}
use Rattle.std.proofs.lemmas.Iterator.{YieldsList-from_slice}
use Rattle.std.proofs.lemmas.Iterator.Search.{any_from_yields_List}
use Rattle.gate_pool.specs.Pool.{Admitted, has_txid}
use Rattle.gate_rbf.proofs.Conflicting.{any_exchange_and}
use Rattle.gate_query.specs.Answers.{is_replaceable}
use Rattle.gate_query.proofs.info.one_signals.Goals as goal

pub returns : goal.returns
returns g c =
    let entries = c.args.pool.now.entries in
    any_from_yields_List (λ (id : List ℕ). list_any (λ (e : Admitted). has_txid e id && is_replaceable e) entries) _ _ c.any.result c.any.ensures.ran (YieldsList-from_slice c.args.txids.now cc) (λ x b q k. search (rules, tests))
    ∙ any_exchange_and (λ (id : List ℕ) (e : Admitted). has_txid e id) is_replaceable c.args.txids.now entries
