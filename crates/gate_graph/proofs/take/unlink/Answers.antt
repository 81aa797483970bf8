use Rattle.std.proofs.Common.{◌∷◌, ◌++◌, ap, ◌≤◌, ◌∙◌, [], sym, subst, length, take, rules, refl}
use Rattle.std.proofs.lemmas.List.{take_more, take_all}
use Rattle.gate_graph.specs.Linking.{AreWithout}
use Rattle.gate_graph.proofs.Pulling.{AreWithout-none, AreWithout-more}
use Rattle.gate_graph.proofs.take.unlink.Goals as goal

pub loop-parent-init : goal.loop-parent-init
loop-parent-init g c = record { all = AreWithout-none c.args.child.now c.args.links.now; room = refl }

pub loop-parent-preserved : goal.loop-parent-preserved
loop-parent-preserved g c =
    let ids = c.args.parents.now in
    let i = c.loop-parent.parent-index in
    record {
      all = subst (λ l. AreWithout l c.args.child.now c.args.links.now c.remove.new.self) (sym (take_more ids i c.parent-item.result c.loop-parent-test.true ∙ ap (λ y. take i ids ++ y ∷ []) (sym c.parent-item.is)))
          (AreWithout-more (take i ids) c.parent-item.result c.args.child.now c.args.links.now c.loop-parent.links c.remove.new.self c.loop-parent.invariant.all c.remove.ensures.lists);
      room = c.remove.ensures.room ∙ c.loop-parent.invariant.room;
    }

pub returns-clause-lists : goal.returns-clause-lists
returns-clause-lists g c =
    let ids = c.args.parents.now in
    let i = c.loop-parent.parent-index in
    let end : length ids ≤ i = search rules in
    subst (λ l. AreWithout l c.args.child.now c.args.links.now c.loop-parent.links) (take_all i ids end) c.loop-parent.invariant.all
