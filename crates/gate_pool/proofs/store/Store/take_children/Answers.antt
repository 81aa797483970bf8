use Rattle.std.proofs.Common.{sym, ap, ◌∙◌}
use Rattle.gate_pool.specs.Family.{names, without_below}
use Rattle.gate_pool.proofs.Children.{child_goes, child_falls}
use Rattle.gate_pool.proofs.Conflicts.{none_named}
use Rattle.gate_pool.proofs.store.Store.take_children.Goals as goal

pub loop-child-smaller : goal.loop-child-smaller
loop-child-smaller g c = child_falls c.loop-child.self.entries c.take_out.new.self.entries c.node_id-id.result c.in-Some.child c.in-Some.ensures.some c.take_out.ensures.rest

pub loop-child-preserved : goal.loop-child-preserved
loop-child-preserved g c = record {
  entries = child_goes c.loop-child.self.entries c.take_out.new.self.entries c.node_id-id.result c.in-Some.child c.in-Some.ensures.some c.take_out.ensures.rest ∙ c.loop-child.invariant.entries;
  before = c.take_out.ensures.before ∙ c.loop-child.invariant.before;
}

pub returns-clause-entries : goal.returns-clause-entries
returns-clause-entries g c =
    sym (none_named c.loop-child.self.entries c.node_id-id.result c.in_default.ensures.none)
    ∙ c.loop-child.invariant.entries
    ∙ ap (λ x. without_below (λ e. names e x) c.args.self.now.entries) c.node_id-id.ensures
