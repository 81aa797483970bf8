use Rattle.std.proofs.Common.{◌≡◌, List, ℕ, sym, ap, subst, ◌∙◌}
use Rattle.std.proofs.lemmas.Result.{IfOk-weaker}
use Rattle.gate_graph.specs.Families.{among, children_of as nodes_naming}
use Rattle.gate_graph.specs.Holding.{nodes_in}
use Rattle.gate_pool.specs.Pool.{Pooled}
use Rattle.gate_pool.specs.Family.{children_of, AreIdsOf}
use Rattle.gate_pool.proofs.Children.{children_ids}
use Rattle.gate_pool.proofs.store.Store.children.Goals as goal

pub returns : goal.returns
returns g c =
    let nodes = c.self.inside.nodes.nodes in
    let x = c.args.txid.now in
    let found : AreIdsOf c.in_ok-found.found.keys (children_of c.args.self.now.entries x) =
    subst (λ (p : Pooled). AreIdsOf c.in_ok-found.found.keys (children_of p.entries x)) c.self.view_is
    (children_ids nodes c.self.invariant.0 x c.in_ok-found.found.keys c.as_slice.ensures.unique (λ o. c.in_ok-found.ensures o ∙ ap (λ y. among (nodes_naming (nodes_in nodes) y) o) c.node_id.ensures)) in
    IfOk-weaker c.txids_of.result (λ ids. ids.items ≡ c.as_slice.result.now) (λ ids. AreIdsOf ids.items (children_of c.args.self.now.entries x))
    (λ ids is. subst (λ (l : List (List ℕ)). AreIdsOf l (children_of c.args.self.now.entries x)) (sym (is ∙ c.as_slice.ensures.keys)) found) c.txids_of.ensures
