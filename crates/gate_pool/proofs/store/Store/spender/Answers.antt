use Rattle.std.proofs.Common.{sym, ap, ◌∙◌}
use Rattle.gate_pool.specs.Pool.{Admitted, Pooled, entry_by_txid, spender_of, has_point}
use Rattle.gate_pool.specs.Keeping.{entries_in}
use Rattle.gate_pool.proofs.Found.{found_again, none_again}
use Rattle.gate_pool.proofs.store.Store.spender.Goals as goal

pub returns-in-Some : goal.returns-in-Some
returns-in-Some g c =
    let es = entries_in c.self.inside.nodes.nodes in
    let k = c.args.point.now in
    let x = c.in-Some.txid.now in
    let known = c.in-Some.ensures.value ∙ c.self.invariant.1.points k in
    c.entry.ensures
    ∙ ap (λ (p : Pooled). entry_by_txid p.entries x) (sym c.self.view_is)
    ∙ found_again es c.self.invariant.1.distinct (spender_of es k) (λ (e : Admitted). has_point e k) (λ i. spender_of es k) x known
    ∙ ap (λ (p : Pooled). spender_of p.entries k) c.self.view_is

pub returns-in-None : goal.returns-in-None
returns-in-None g c =
    let es = entries_in c.self.inside.nodes.nodes in
    let k = c.args.point.now in
    let known = c.in-None.ensures.value ∙ c.self.invariant.1.points k in
    none_again es c.self.invariant.1.distinct (spender_of es k) known ∙ ap (λ (p : Pooled). spender_of p.entries k) c.self.view_is
