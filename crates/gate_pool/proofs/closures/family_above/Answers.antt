use Rattle.std.proofs.Common.{◌≤◌, ◌<◌, ◌∙◌, List, length, sym, ap, subst, arith}
use Rattle.gate_tx.specs.Ids.{txid_of}
use Rattle.gate_tx.specs.declared.TxIn.{TxIn}
use Rattle.gate_pool.specs.Pool.{Admitted}
use Rattle.gate_pool.specs.Family.{sums_of}
use Rattle.gate_pool.specs.Search.{IsFound, parents_of}
use Rattle.gate_pool.proofs.Lending.{AreLent-none, AreLent-length, lent_next, lent_sums}
use Rattle.gate_pool.proofs.Searching.{IsSound-le}
use Rattle.gate_pool.proofs.Families.{is_above, WalkUp-start, WalkUp-open, WalkUp-over, WalkUp-over_next, WalkUp-end}
use Rattle.gate_pool.proofs.closures.family_above.Goals as goal

pub returns-then-not-branch-clause-many : goal.returns-then-not-branch-clause-many
returns-then-not-branch-clause-many g c = λ none.
    WalkUp-over (g.V.FamilyView.entries c.args.pool.now) c.args.inputs.now c.in_ok-found.ensures.items c.in_ok-add_parents.ensures.found c.if-not-branch.true

pub loop-opened-init : goal.loop-opened-init
loop-opened-init g c =
    let few : length c.add_parents.new.found.items ≤ c.args.most = c.in_ok-add_parents.ensures.found.few c.if-not-branch.false (subst (λ l. length l ≤ c.args.most) (sym c.in_ok-found.ensures.items) (omega arith)) in
    record {
      walk = WalkUp-start (g.V.FamilyView.entries c.args.pool.now) c.args.inputs.now c.in_ok-found.ensures.items c.in_ok-add_parents.ensures.found c.if-not-branch.false;
      lent = c.in_ok-add_parents.ensures.lent (AreLent-none c.in_ok-found.ensures.items c.in_ok-lent.ensures.items);
      few = omega (arith, few, c.add_parents.new.found.ok);
    }

pub loop-opened-smaller : goal.loop-opened-smaller
loop-opened-smaller g c = omega (arith, IsSound-le c.loop-opened.invariant.walk.sound, AreLent-length c.loop-opened.invariant.lent, c.loop-opened-test.true, c.len.ensures, c.loop-opened.lent.ok)

pub returns-then-not-branch-2-clause-many : goal.returns-then-not-branch-2-clause-many
returns-then-not-branch-2-clause-many g c = λ none.
    let entries = g.V.FamilyView.entries c.args.pool.now in
    let e = c.index-next.result.now in
    let lt : c.loop-opened.opened < length c.loop-opened.lent.items = omega (arith, c.loop-opened-test.true, c.len.ensures, c.loop-opened.lent.ok) in
    let next = lent_next entries c.recall_apart.ensures c.loop-opened.invariant.lent c.loop-opened.opened e lt c.index-next.ensures in
    let found : IsFound c.args.most entries (parents_of e.tx.inputs) c.loop-opened.found.items c.add_parents-in-loop-opened.new.found.items c.in_ok-add_parents-2.field-0 =
    subst (λ (is : List TxIn). IsFound c.args.most entries (parents_of is) c.loop-opened.found.items c.add_parents-in-loop-opened.new.found.items c.in_ok-add_parents-2.field-0) c.inputs-parents.ensures c.in_ok-add_parents-2.ensures.found in
    WalkUp-over_next entries c.args.inputs.now c.loop-opened.invariant.walk (txid_of e.tx) next.0 next.1 e next.2 found c.if-not-branch-2.true

pub loop-opened-preserved : goal.loop-opened-preserved
loop-opened-preserved g c =
    let entries = g.V.FamilyView.entries c.args.pool.now in
    let e = c.index-next.result.now in
    let lt : c.loop-opened.opened < length c.loop-opened.lent.items = omega (arith, c.loop-opened-test.true, c.len.ensures, c.loop-opened.lent.ok) in
    let next = lent_next entries c.recall_apart.ensures c.loop-opened.invariant.lent c.loop-opened.opened e lt c.index-next.ensures in
    let found : IsFound c.args.most entries (parents_of e.tx.inputs) c.loop-opened.found.items c.add_parents-in-loop-opened.new.found.items c.in_ok-add_parents-2.field-0 =
    subst (λ (is : List TxIn). IsFound c.args.most entries (parents_of is) c.loop-opened.found.items c.add_parents-in-loop-opened.new.found.items c.in_ok-add_parents-2.field-0) c.inputs-parents.ensures c.in_ok-add_parents-2.ensures.found in
    let few : length c.add_parents-in-loop-opened.new.found.items ≤ c.args.most = found.few c.if-not-branch-2.false (omega (arith, c.loop-opened.invariant.few, c.loop-opened.found.ok)) in
    record {
      walk = WalkUp-open entries c.args.inputs.now c.recall_apart.ensures c.loop-opened.invariant.walk (txid_of e.tx) next.0 next.1 e next.2 found c.if-not-branch-2.false;
      lent = c.in_ok-add_parents-2.ensures.lent c.loop-opened.invariant.lent;
      few = omega (arith, few, c.add_parents-in-loop-opened.new.found.ok);
    }

pub returns-clause-found : goal.returns-clause-found
returns-clause-found g c =
    WalkUp-end (g.V.FamilyView.entries c.args.pool.now) c.args.inputs.now c.loop-opened.invariant.walk
    (omega (arith, c.loop-opened-test.false, c.len.ensures, c.loop-opened.lent.ok, AreLent-length c.loop-opened.invariant.lent))

pub returns-clause-sums : goal.returns-clause-sums
returns-clause-sums g c =
    let entries = g.V.FamilyView.entries c.args.pool.now in
    let inputs = c.args.inputs.now in
    let walk = c.loop-opened.invariant.walk in
    let held = c.loop-opened.invariant.lent in
    let are = WalkUp-end entries inputs walk (omega (arith, c.loop-opened-test.false, c.len.ensures, c.loop-opened.lent.ok, AreLent-length held)) in
    c.sum-sums.ensures.sums ∙ ap sums_of c.deref.ensures.value ∙ lent_sums entries c.recall_apart.ensures held (λ (e : Admitted). is_above entries inputs (txid_of e.tx)) are
