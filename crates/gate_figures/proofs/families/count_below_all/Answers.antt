use Rattle.std.proofs.Common.{◌∙◌, ap, sym, arith}
use Rattle.std.proofs.lemmas.List.{take_all}
use Rattle.gate_rbf.proofs.Counted.{counted, counted-all, counted-more, next_entry}
use Rattle.gate_figures.proofs.families.count_below_all.Goals as goal

pub count_below-requires : goal.count_below-requires
count_below-requires g c =
    next_entry c.args.pool.now.entries c.recall_distinct.ensures c.args.ids.now c.requires.0 c.requires.1 c.loop-id.id-index c.id-item.result c.loop-id-test.true (sym c.id-item.is)

pub loop-id-preserved : goal.loop-id-preserved
loop-id-preserved g c = (
  λ test are.
      let more = counted-more c.args.pool.now.entries c.recall_distinct.ensures c.args.ids.now test are c.loop-id.id-index c.id-item.result c.loop-id-test.true (sym c.id-item.is) in
      omega (arith, c.count_below.ensures, more, c.loop-id.invariant.0 test are),
  omega (arith, c.loop-id.invariant.1),
)

pub returns : goal.returns
returns g c = λ test are.
    let entries = c.args.pool.now.entries in
    let ids = c.args.ids.now in
    c.loop-id.invariant.0 test are
    ∙ (ap (counted entries) (take_all c.loop-id.id-index ids (omega (arith, c.loop-id-test.false))) ∙ counted-all entries c.recall_distinct.ensures ids test are)
