use Rattle.std.proofs.Common.{sym, ap, ◌∙◌, not}
use Rattle.gate_tx.specs.Ids.{txid_of}
use Rattle.gate_graph.specs.Family.{reaches}
use Rattle.gate_pool.specs.Pool.{Admitted, spender_of, has_point}
use Rattle.gate_pool.specs.Family.{steps, without_family, without_below}
use Rattle.gate_pool.proofs.Entries.{find_some}
use Rattle.gate_pool.proofs.Leaving.{spender_gone}
use Rattle.gate_pool.proofs.Removals.{without_below-family}
use Rattle.gate_pool.proofs.Walking.{none-filter}
use Rattle.gate_pool.proofs.store.Store.take_spender.Goals as goal

pub returns-in-Some-clause-rest : goal.returns-in-Some-clause-rest
returns-in-Some-clause-rest g c = λ test h.
    let es = c.args.self.now.entries in
    let e = c.in-Some.entry.now in
    let w = find_some (λ (d : Admitted). has_point d c.args.point.now) es e (sym c.in-Some.ensures) in
    ap (without_below test) (c.take_out.ensures.rest ∙ ap (without_family es) (c.node_id-id.ensures ∙ c.txid.ensures)) ∙ without_below-family test es e w.0 (h e w.1)

pub returns-in-Some-clause-gone : goal.returns-in-Some-clause-gone
returns-in-Some-clause-gone g c =
    let es = c.args.self.now.entries in
    let e = c.in-Some.entry.now in
    ap (λ l. spender_of l c.args.point.now) (c.take_out.ensures.rest ∙ ap (without_family es) (c.node_id-id.ensures ∙ c.txid.ensures)) ∙ spender_gone es c.args.point.now e c.recall_distinct.ensures (sym c.in-Some.ensures)

pub returns-in-Some-clause-still : goal.returns-in-Some-clause-still
returns-in-Some-clause-still g c = λ p none.
    let es = c.args.self.now.entries in
    let e = c.in-Some.entry.now in
    ap (λ l. spender_of l p) (c.take_out.ensures.rest ∙ ap (without_family es) (c.node_id-id.ensures ∙ c.txid.ensures))
    ∙ none-filter (λ (d : Admitted). has_point d p) (λ (d : Admitted). not (reaches (steps es) (txid_of e.tx) (txid_of d.tx))) es none
