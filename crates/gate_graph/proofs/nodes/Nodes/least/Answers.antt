use Rattle.std.proofs.Common.{◌≡◌, ap, subst, ◌∙◌}
use Rattle.std.specs.Prelude.{IfSome}
use Rattle.std.specs.Option.{option_map}
use Rattle.gate_graph.specs.declared.held.Held.{Held}
use Rattle.gate_graph.specs.Holding.{Carried, nodes_in, node_of}
use Rattle.gate_graph.specs.Ranks.{least_of}
use Rattle.gate_graph.specs.Weighing.{totals_of}
use Rattle.gate_graph.proofs.Least.{least_loaded, least_totals}
use Rattle.gate_graph.proofs.nodes.Nodes.least.Goals as goal

pub returns-clause-node : goal.returns-clause-node
returns-clause-node g c =
    ap (option_map (λ (h : Held g.row.T.Denot). (node_of h, h.load))) c.least.ensures ∙ least_loaded c.self.inside.slots.held c.self.invariant.0.weighed ∙ ap (λ (l : Carried g.row.T.Denot). least_of l.nodes) c.self.view_is

pub returns-clause-totals : goal.returns-clause-totals
returns-clause-totals g c =
    subst (λ (l : Carried g.row.T.Denot). IfSome c.least.result (λ h. h.now.totals ≡ totals_of (nodes_in l.nodes) h.now.id)) c.self.view_is (least_totals c.self.inside.slots.held c.self.invariant.0.weighed c.least.result c.least.ensures)
