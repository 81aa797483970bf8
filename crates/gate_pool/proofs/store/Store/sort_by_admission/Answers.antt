use Rattle.std.proofs.Common.{sym, ap, subst, ◌∙◌}
use Rattle.std.specs.Prelude.{filter}
use Rattle.gate_pool.specs.Pool.{Pooled, listing_of}
use Rattle.gate_pool.specs.Family.{AreIdsOf}
use Rattle.gate_pool.specs.Keeping.{entries_in}
use Rattle.gate_pool.proofs.Admission.{in_order}
use Rattle.gate_pool.proofs.Standing.{spots_listed}
use Rattle.gate_pool.proofs.store.Store.sort_by_admission.Goals as goal

pub returns-clause-order : goal.returns-clause-order
returns-clause-order g c = λ test are.
    let nodes = c.self.inside.nodes.nodes in
    let spots = c.self.inside.nodes.places in
    let es = entries_in nodes in
    in_order es spots (spots_listed c.as_slice-slots.result.now spots es (c.as_slice-slots.ensures.nodes ∙ c.self.invariant.0.is) c.as_slice-slots.ensures.places) c.self.invariant.1.distinct.txids
    test c.args.txids.now c.sort_by_place.new.txids c.sort_by_place.ensures.same c.sort_by_place.ensures.order
    (subst (λ (p : Pooled). AreIdsOf c.args.txids.now (filter test p.entries)) (sym c.self.view_is) are)
    ∙ ap (λ (p : Pooled). listing_of (filter test p.entries)) c.self.view_is
