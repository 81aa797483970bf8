use Rattle.std.proofs.Common.{length, ap, ◌∙◌}
use Rattle.gate_pool.specs.Pool.{Pooled}
use Rattle.gate_pool.proofs.Carrying.{count_is}
use Rattle.gate_pool.proofs.store.Store.count.Goals as goal

pub returns : goal.returns
returns g c = c.count.ensures ∙ count_is c.self.inside.nodes.nodes c.self.invariant.0 ∙ ap (λ (p : Pooled). length p.entries) c.self.view_is
