use Rattle.std.proofs.Common.{◌≤◌, ◌<◌, length, sym, subst, arith}
use Rattle.gate_pool.specs.Family.{children_of, AreIdsOf}
use Rattle.gate_pool.proofs.Searching.{IsSound-le}
use Rattle.gate_pool.proofs.Families.{WalkDown-start, WalkDown-open, WalkDown-over, WalkDown-over_next, WalkDown-end}
use Rattle.gate_pool.proofs.closures.descendants.Goals as goal

pub returns-then-not-branch-clause-many : goal.returns-then-not-branch-clause-many
returns-then-not-branch-clause-many g c = λ test are none.
    WalkDown-over (g.V.FamilyView.entries c.args.pool.now) c.args.roots.now test are c.new-found.ensures.items c.in_ok-add_all.ensures c.if-not-branch.true

pub loop-opened-init : goal.loop-opened-init
loop-opened-init g c =
    let few : length c.add_all.new.found.items ≤ c.args.most = c.in_ok-add_all.ensures.few c.if-not-branch.false (subst (λ l. length l ≤ c.args.most) (sym c.new-found.ensures.items) (omega arith)) in
    record {
      walk = WalkDown-start (g.V.FamilyView.entries c.args.pool.now) c.args.roots.now c.new-found.ensures.items c.in_ok-add_all.ensures c.if-not-branch.false;
      few = omega (arith, few, c.add_all.new.found.ok);
    }

pub returns-then-not-branch-2-clause-many : goal.returns-then-not-branch-2-clause-many
returns-then-not-branch-2-clause-many g c = λ test are none.
    let entries = g.V.FamilyView.entries c.args.pool.now in
    let x = c.index.result.now in
    let lt : c.loop-opened.opened < length c.loop-opened.found.items = omega (arith, c.loop-opened-test.true, c.len.ensures, c.loop-opened.found.ok) in
    let ids : AreIdsOf c.as_slice.result.now (children_of entries x) = subst (λ l. AreIdsOf l (children_of entries x)) (sym c.as_slice.ensures.value) c.in_ok-children.ensures in
    WalkDown-over_next entries c.args.roots.now test are c.loop-opened.invariant.walk x lt c.index.ensures ids c.in_ok-add_all-2.ensures c.if-not-branch-2.true

pub loop-opened-smaller : goal.loop-opened-smaller
loop-opened-smaller g c = omega (arith, IsSound-le c.loop-opened.invariant.walk.sound, c.loop-opened-test.true, c.len.ensures, c.loop-opened.found.ok)

pub loop-opened-preserved : goal.loop-opened-preserved
loop-opened-preserved g c =
    let entries = g.V.FamilyView.entries c.args.pool.now in
    let x = c.index.result.now in
    let lt : c.loop-opened.opened < length c.loop-opened.found.items = omega (arith, c.loop-opened-test.true, c.len.ensures, c.loop-opened.found.ok) in
    let ids : AreIdsOf c.as_slice.result.now (children_of entries x) = subst (λ l. AreIdsOf l (children_of entries x)) (sym c.as_slice.ensures.value) c.in_ok-children.ensures in
    let few : length c.add_all-in-loop-opened.new.found.items ≤ c.args.most = c.in_ok-add_all-2.ensures.few c.if-not-branch-2.false (omega (arith, c.loop-opened.invariant.few, c.loop-opened.found.ok)) in
    record {
      walk = WalkDown-open entries c.args.roots.now c.loop-opened.invariant.walk x lt c.index.ensures ids c.in_ok-add_all-2.ensures c.if-not-branch-2.false;
      few = omega (arith, few, c.add_all-in-loop-opened.new.found.ok);
    }

pub returns-clause-found : goal.returns-clause-found
returns-clause-found g c = λ test are.
    WalkDown-end (g.V.FamilyView.entries c.args.pool.now) c.args.roots.now test are c.loop-opened.invariant.walk (omega (arith, c.loop-opened-test.false, c.len.ensures, c.loop-opened.found.ok))
