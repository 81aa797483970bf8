use Rattle.std.proofs.Common.{sym, ap, ◌∙◌}
use Rattle.gate_pool.specs.Pool.{Admitted, has_txid}
use Rattle.gate_pool.specs.Family.{without_family}
use Rattle.gate_pool.proofs.Entries.{find_some}
use Rattle.gate_pool.proofs.Leaving.{id_gone}
use Rattle.gate_pool.proofs.Removals.{without_below-none}
use Rattle.gate_pool.proofs.store.Store.take_entry.Goals as goal

pub returns-in-Some-clause-rest : goal.returns-in-Some-clause-rest
returns-in-Some-clause-rest g c =
    let es = c.args.self.now.entries in
    let e = c.in-Some.entry.now in
    let w = find_some (λ (d : Admitted). has_txid d c.args.txid.now) es e (sym c.in-Some.ensures) in
    c.take_out.ensures.rest ∙ ap (without_family es) (c.node_id-id.ensures ∙ c.txid.ensures) ∙ id_gone es c.args.txid.now e w.0 w.1

pub returns-in-None-clause-rest : goal.returns-in-None-clause-rest
returns-in-None-clause-rest g c = sym (without_below-none (λ (d : Admitted). has_txid d c.args.txid.now) c.args.self.now.entries (sym c.in-None.ensures))
