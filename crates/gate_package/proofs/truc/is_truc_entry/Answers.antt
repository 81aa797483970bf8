use Rattle.std.proofs.Common.{sym, ap, ◌∙◌, true≢false}
use Rattle.std.specs.Cmp.Lexicographic.{bytes_decides}
use Rattle.gate_tx.specs.Ids.{txid_of}
use Rattle.gate_standard.specs.Rules.{is_truc}
use Rattle.gate_pool.specs.Pool.{Admitted, has_txid}
use Rattle.gate_pool.proofs.Entries.{find_none}
use Rattle.gate_admit.proofs.Kinship.{found_is}
use Rattle.gate_package.proofs.truc.is_truc_entry.Goals as goal

pub returns-in-Some : goal.returns-in-Some
returns-in-Some g c = λ a m at.
    let one = found_is c.args.pool.now.entries c.args.txid.now c.in-Some.entry.now a c.recall_distinct.ensures c.in-Some.ensures m at in
    c.is_truc.ensures ∙ ap is_truc (c.transaction.ensures ∙ ap (λ (x : Admitted). x.tx) one)

pub returns-in-None : goal.returns-in-None
returns-in-None g c = λ a m at.
    absurd (true≢false (sym ((bytes_decides (txid_of a.tx) c.args.txid.now).1 at) ∙ find_none (λ (d : Admitted). has_txid d c.args.txid.now) c.args.pool.now.entries (sym c.in-None.ensures) a m))
