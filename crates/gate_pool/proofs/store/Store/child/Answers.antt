use Rattle.std.proofs.Common.{◌≡◌, false, subst}
use Rattle.std.specs.Prelude.{Contains, IfSome, IfNone}
use Rattle.gate_pool.specs.Pool.{Admitted, Pooled}
use Rattle.gate_pool.specs.Family.{names}
use Rattle.gate_pool.specs.Search.{IsChild}
use Rattle.gate_pool.proofs.Children.{child_copied, none_copied}
use Rattle.gate_pool.proofs.store.Store.child.Goals as goal

pub returns-clause-some : goal.returns-clause-some
returns-clause-some g c =
    let nodes = c.self.inside.nodes.nodes in
    let x = c.args.id.now in
    subst (λ (p : Pooled). IfSome c.copied.result (λ child. IsChild p.entries x child)) c.self.view_is (child_copied nodes c.self.invariant.0 x c.child.result c.copied.result c.copied.ensures c.child.ensures.some)

pub returns-clause-none : goal.returns-clause-none
returns-clause-none g c =
    let nodes = c.self.inside.nodes.nodes in
    let x = c.args.id.now in
    subst (λ (p : Pooled). IfNone c.copied.result ((e : Admitted) → Contains p.entries e → names e x ≡ false)) c.self.view_is (none_copied nodes c.self.invariant.0 x c.child.result c.copied.result c.copied.ensures c.child.ensures.none)
