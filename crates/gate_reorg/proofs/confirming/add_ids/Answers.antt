use Rattle.std.proofs.Common.{◌+◌, ◌||◌, true, cond, drop, sym, ap, ◌∙◌}
use Rattle.std.specs.Str.{bytes_eq}
use Rattle.indexmap.specs.IndexSet.{contains}
use Rattle.gate_tx.specs.Ids.{txid_of}
use Rattle.gate_reorg.specs.Reorganisation.{has_id}
use Rattle.gate_reorg.proofs.Listed.{drop_item, noted_next}
use Rattle.gate_reorg.proofs.confirming.add_ids.Goals as goal

pub loop-transaction-preserved : goal.loop-transaction-preserved
loop-transaction-preserved g c = λ id.
    let txs = c.args.transactions.now in
    let i = c.loop-transaction.transaction-index in
    let tx = c.transaction-item.result in
    let had = contains bytes_eq c.loop-transaction.ids id in
    let rest = has_id (drop (i + 1) txs) id in
    ap (λ b. b || rest) (c.in_ok-insert.ensures.updates.0 id ∙ ap (λ x. cond (bytes_eq x id) true had) (c.txid.ensures ∙ ap txid_of c.get.ensures))
    ∙ noted_next had (bytes_eq (txid_of tx) id) rest
    ∙ ap (λ l. had || has_id l id) (sym (drop_item txs i tx c.loop-transaction-test.true c.transaction-item.is))
    ∙ c.loop-transaction.invariant id
