use Rattle.std.proofs.Common.{sym, ap, ◌∙◌}
use Rattle.gate_pool.specs.Pool.{Pooled}
use Rattle.gate_pool.proofs.Readiness.{HaveArrived-same}
use Rattle.gate_pool.proofs.Standing.{standing_in}
use Rattle.gate_pool.proofs.store.Store.drop_gone.Goals as goal

pub returns-then-len-count-clause-arrived : goal.returns-then-len-count-clause-arrived
returns-then-len-count-clause-arrived g c =
    HaveArrived-same c.list_anew.ensures.arrived (sym (standing_in c.as_slice.result.now c.self.inside.nodes.nodes c.as_slice.ensures.nodes ∙ ap (λ (p : Pooled). p.entries) c.self.view_is))
