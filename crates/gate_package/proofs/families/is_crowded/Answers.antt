use Rattle.std.proofs.Common.{◌∙◌, length, sym, ap, true≢false}
use Rattle.gate_tx.specs.Ids.{txid_of}
use Rattle.gate_graph.specs.declared.held.Totals.{Totals}
use Rattle.gate_pool.specs.Pool.{size_of}
use Rattle.gate_pool.specs.Family.{descendants_of}
use Rattle.gate_rbf.proofs.Counted.{entry_found}
use Rattle.gate_package.proofs.Crowding.{kept_crowd}
use Rattle.gate_package.proofs.families.is_crowded.Goals as goal

pub returns-in-Some : goal.returns-in-Some
returns-in-Some g c = λ a m is.
    let entries = c.args.pool.now.entries in
    let kept = c.in-Some.ensures.totals in
    kept_crowd c.args.limits c.args.count c.args.vsize (descendants_of entries (txid_of a.tx)) c.in-Some.totals.now.below.count c.in-Some.totals.now.below.size c.from.result c.requires
    (ap (λ (t : Totals). t.below.count) kept ∙ ap (λ x. length (descendants_of entries x)) (sym is))
    (ap (λ (t : Totals). t.below.size) kept ∙ ap (λ x. size_of (descendants_of entries x)) (sym is))
    c.from.ensures

pub returns-in-None : goal.returns-in-None
returns-in-None g c = λ a m is. absurd (true≢false (sym (entry_found c.args.pool.now.entries c.args.txid.now (a, m, is)) ∙ sym c.in-None.ensures.found))
