use Rattle.std.proofs.Common.{ap, ◌∙◌}
use Rattle.gate_pool.specs.Pool.{Pooled, listing_of}
use Rattle.gate_pool.proofs.Standing.{standing_in}
use Rattle.gate_pool.proofs.store.Store.listing.Goals as goal

pub returns : goal.returns
returns g c =
    c.from_vec.ensures ∙ c.in_ok-txids.ensures ∙ ap listing_of (standing_in c.as_slice.result.now c.self.inside.nodes.nodes c.as_slice.ensures.nodes) ∙ ap (λ (p : Pooled). listing_of p.entries) c.self.view_is
