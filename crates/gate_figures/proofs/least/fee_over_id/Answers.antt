use Rattle.std.proofs.Common.{◌≡◌, Some, ap, sym, ◌∙◌, is_some, true≢false}
use Rattle.std.specs.Prelude.{nat_le}
use Rattle.gate_standard.specs.Amounts.{feerate}
use Rattle.gate_pool.specs.Pool.{Admitted, entry_by_txid}
use Rattle.gate_pool.proofs.Adding.{found_by_id}
use Rattle.gate_rbf.proofs.Counted.{entry_found}
use Rattle.gate_figures.proofs.Passing.{some_is}
use Rattle.gate_figures.proofs.least.fee_over_id.Goals as goal

pub returns-in-Some : goal.returns-in-Some
returns-in-Some g c = λ a m is fee.
    let entries = c.args.pool.now.entries in
    let same : c.in-Some.entry.now ≡ a = some_is c.in-Some.entry.now a (c.in-Some.ensures ∙ ap (entry_by_txid entries) (sym is) ∙ found_by_id entries c.recall_distinct.ensures.txids a m) in
    ap (λ (e : Admitted). nat_le (feerate fee c.args.vsize) (feerate e.fee e.vsize)) (sym same) ∙ c.fee_over.ensures fee

pub returns-in-None : goal.returns-in-None
returns-in-None g c = λ a m is. absurd (true≢false (sym (entry_found c.args.pool.now.entries c.args.txid.now (a, m, is)) ∙ ap is_some (sym c.in-None.ensures)))
