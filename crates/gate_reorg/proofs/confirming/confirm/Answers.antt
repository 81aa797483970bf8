use Rattle.std.proofs.Common.{List, ap, ◌∙◌}
use Rattle.gate_tx.specs.declared.TxIn.{TxIn}
use Rattle.gate_tx.specs.Tx.{Tx}
use Rattle.gate_pool.specs.Pool.{Admitted}
use Rattle.gate_pool.specs.Family.{spends_one_of, without_below}
use Rattle.gate_reorg.specs.Reorganisation.{without_txid, confirmed}
use Rattle.gate_reorg.proofs.confirming.confirm.Goals as goal

pub returns-clause-entries : goal.returns-clause-entries
unfolding confirmed
returns-clause-entries g c =
    let tx = c.args.transaction.now in
    let old = c.args.pool.now.entries in
    let inputs = c.inputs.ensures ∙ ap (λ (t : Tx). t.inputs) c.transaction.ensures in
    c.take_spenders.ensures.entries
    ∙ ap (λ (l : List TxIn). without_below (spends_one_of l) c.remove_root.new.self.entries) inputs
    ∙ ap (λ (es : List Admitted). without_below (spends_one_of tx.inputs) es) (c.remove_root.ensures.entries ∙ ap (without_txid old) c.txid.ensures)
