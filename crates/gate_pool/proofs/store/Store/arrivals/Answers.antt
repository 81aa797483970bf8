use Rattle.std.proofs.Common.{length, sym, ap, ◌∙◌, arith}
use Rattle.gate_pool.specs.Pool.{Pooled}
use Rattle.gate_pool.proofs.Readiness.{HaveArrived-same}
use Rattle.gate_pool.proofs.Standing.{standing_in}
use Rattle.gate_pool.proofs.store.Store.arrivals.Goals as goal

pub list_anew-requires : goal.list_anew-requires
list_anew-requires g c =
    let is = standing_in c.as_slice.result.now c.self.inside.nodes.nodes c.as_slice.ensures.nodes ∙ ap (λ (p : Pooled). p.entries) c.self.view_is in
    omega (arith, ap length is, c.count.ensures, c.in_ok-arrivals.ensures.room)

pub returns : goal.returns
returns g c =
    let is = standing_in c.as_slice.result.now c.self.inside.nodes.nodes c.as_slice.ensures.nodes ∙ ap (λ (p : Pooled). p.entries) c.self.view_is in
    HaveArrived-same c.list_anew.ensures.arrived (sym is)
