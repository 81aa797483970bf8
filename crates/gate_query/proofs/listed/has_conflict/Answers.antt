use Rattle.std.proofs.Common.{◌∙◌, is_some, ap, rules, tests}
use Rattle.std.specs.List.{list_any}
use Rattle.std.proofs.lemmas.Iterator.{YieldsList-from_slice}
use Rattle.std.proofs.lemmas.Iterator.Search.{any_from_yields_List}
use Rattle.gate_tx.specs.declared.TxIn.{TxIn}
use Rattle.gate_pool.specs.Pool.{spender_of}
use Rattle.gate_query.proofs.listed.has_conflict.Goals as goal

pub returns : goal.returns
returns g c =
    let entries = c.args.pool.now.entries in
    any_from_yields_List (λ (i : TxIn). is_some (spender_of entries i.prevout)) _ _ c.any.result c.any.ensures.ran (YieldsList-from_slice c.inputs.result.now cc) (λ x b q k. search (rules, tests))
    ∙ ap (list_any (λ (i : TxIn). is_some (spender_of entries i.prevout))) c.inputs.ensures
