use Rattle.std.proofs.Common.{◌∙◌, ap, length, arith}
use Rattle.std.specs.Prelude.{filter}
use Rattle.gate_pool.specs.Pool.{Pooled, listing_of}
use Rattle.gate_pool.proofs.Standing.{standing_in}
use Rattle.gate_pool.proofs.store.Store.choose.Goals as goal

pub choose-requires : goal.choose-requires
choose-requires g c =
    omega (arith, c.requires, ap length (standing_in c.as_slice.result.now c.self.inside.nodes.nodes c.as_slice.ensures.nodes), ap (λ (p : Pooled). length p.entries) c.self.view_is)

pub returns-clause-ids : goal.returns-clause-ids
returns-clause-ids g c =
    let test = g.T.Test.chosen c.args.test.now in
    c.choose.ensures.ids ∙ ap (λ l. listing_of (filter test l)) (standing_in c.as_slice.result.now c.self.inside.nodes.nodes c.as_slice.ensures.nodes) ∙ ap (λ (p : Pooled). listing_of (filter test p.entries)) c.self.view_is
