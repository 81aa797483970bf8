use Rattle.std.proofs.Common.{not, sym, ap, ◌∙◌, true≢false}
use Rattle.std.specs.Cmp.Lexicographic.{bytes_decides}
use Rattle.gate_tx.specs.Ids.{txid_of}
use Rattle.gate_standard.specs.Rules.{is_truc}
use Rattle.gate_pool.specs.Pool.{Admitted, has_txid}
use Rattle.gate_pool.proofs.Entries.{find_none}
use Rattle.gate_admit.proofs.Kinship.{found_is, other_than_truc, truc_beside_other}
use Rattle.gate_admit.proofs.truc.is_of_other_kind.Goals as goal

pub returns-then-is_truc : goal.returns-then-is_truc
returns-then-is_truc g c = λ a m at.
    let one = found_is c.args.pool.now.entries c.args.txid.now c.in-Some.entry.now a c.recall_distinct.ensures c.in-Some.ensures m at in
    ap not (c.is_truc-then-is_truc.ensures ∙ ap is_truc (c.transaction.ensures ∙ ap (λ (x : Admitted). x.tx) one)) ∙ sym (other_than_truc c.args.tx.now a (sym c.is_truc.ensures ∙ c.if-is_truc.true))

pub returns-else-is_truc : goal.returns-else-is_truc
returns-else-is_truc g c = λ a m at.
    let one = found_is c.args.pool.now.entries c.args.txid.now c.in-Some.entry.now a c.recall_distinct.ensures c.in-Some.ensures m at in
    c.is_truc-else-is_truc.ensures ∙ ap is_truc (c.transaction-else-is_truc.ensures ∙ ap (λ (x : Admitted). x.tx) one) ∙ sym (truc_beside_other c.args.tx.now a (sym c.is_truc.ensures ∙ c.if-is_truc.false))

pub returns-in-None : goal.returns-in-None
returns-in-None g c = λ a m at.
    absurd (true≢false (sym ((bytes_decides (txid_of a.tx) c.args.txid.now).1 at) ∙ find_none (λ (d : Admitted). has_txid d c.args.txid.now) c.args.pool.now.entries (sym c.in-None.ensures) a m))
