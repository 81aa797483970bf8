use Rattle.std.proofs.Common.{◌<◌, ◌^◌, Some, length, sym, ap, subst, ◌∙◌, arith}
use Rattle.gate_graph.specs.Ranks.{least_of as least_node}
use Rattle.gate_graph.specs.Weighing.{totals_of}
use Rattle.gate_pool.specs.Pool.{Pooled}
use Rattle.gate_pool.specs.declared.scores.Score.{Score}
use Rattle.gate_pool.specs.Scores.{AreBounded, least_of}
use Rattle.gate_pool.specs.Keeping.{entries_in}
use Rattle.gate_pool.proofs.Carrying.{nodes_are}
use Rattle.gate_pool.proofs.Scoring.{least_found, least_bounded, no_least}
use Rattle.gate_pool.proofs.store.Store.least.Goals as goal

pub returns-in-Some-clause-value : goal.returns-in-Some-clause-value
returns-in-Some-clause-value g c =
    let nodes = c.self.inside.nodes.nodes in
    ap Some c.of.ensures
    ∙ least_found (entries_in nodes) c.in-Some.held.now (c.in-Some.ensures.node ∙ ap least_node c.self.invariant.0.is) (c.in-Some.ensures.totals ∙ ap (λ l. totals_of l c.in-Some.held.now.id) (nodes_are nodes c.self.invariant.0))
    ∙ ap (λ (p : Pooled). least_of p.entries) c.self.view_is

pub returns-in-None-clause-value : goal.returns-in-None-clause-value
returns-in-None-clause-value g c =
    no_least (entries_in c.self.inside.nodes.nodes) (c.in-None.ensures.node ∙ ap least_node c.self.invariant.0.is) ∙ ap (λ (p : Pooled). least_of p.entries) c.self.view_is

pub returns-in-Some-clause-bounded : goal.returns-in-Some-clause-bounded
returns-in-Some-clause-bounded g c =
    let nodes = c.self.inside.nodes.nodes in
    let few : length (entries_in nodes) < 2 ^ 64 = omega (arith, c.self.invariant.3, c.self.inside.gone.small) in
    subst (λ (s : Score). AreBounded s.family) (sym c.of.ensures)
    (least_bounded (entries_in nodes) c.self.invariant.0.bounded few c.in-Some.held.now (c.in-Some.ensures.node ∙ ap least_node c.self.invariant.0.is) (c.in-Some.ensures.totals ∙ ap (λ l. totals_of l c.in-Some.held.now.id) (nodes_are nodes c.self.invariant.0)))
