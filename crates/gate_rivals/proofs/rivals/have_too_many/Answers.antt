use Rattle.std.proofs.Common.{sym, ap, ◌+◌, arith}
use Rattle.std.specs.Prelude.{filter}
use Rattle.std.proofs.lemmas.List.{take_all}
use Rattle.gate_rbf.specs.Replacing.{descendant_count}
use Rattle.gate_rbf.proofs.Counted.{counted, next_entry, counted-all, counted-part, counted-more, is_over, is_within}
use Rattle.gate_rivals.proofs.rivals.have_too_many.Goals as goal

pub count_below-count-requires : goal.count_below-count-requires
count_below-count-requires g c = next_entry c.args.pool.now.entries c.recall_distinct.ensures c.args.ids.now c.requires.0 c.requires.1 c.loop-id.id-index c.id-item.result c.loop-id-test.true (sym c.id-item.is)

pub returns-then-count-left : goal.returns-then-count-left
returns-then-count-left g c = λ test are.
    let entries = c.args.pool.now.entries in
    let distinct = c.recall_distinct.ensures in
    let ids = c.args.ids.now in
    let k = c.loop-id.id-index in
    let id = c.id-item.result in
    let more = counted-more entries distinct ids test are k id c.loop-id-test.true (sym c.id-item.is) in
    sym (is_over 100 (descendant_count entries (filter test entries))
    (omega (arith, c.count_below-count.ensures, c.if-count-left.true, more, counted-part entries distinct ids test are (k + 1), c.loop-id.invariant test are)))

pub loop-id-preserved : goal.loop-id-preserved
loop-id-preserved g c = λ test are.
    let entries = c.args.pool.now.entries in
    let more = counted-more entries c.recall_distinct.ensures c.args.ids.now test are c.loop-id.id-index c.id-item.result c.loop-id-test.true (sym c.id-item.is) in
    omega (arith, c.count_below-count.ensures, c.if-count-left.false, more, c.loop-id.invariant test are)

pub returns : goal.returns
returns g c = λ test are.
    let entries = c.args.pool.now.entries in
    let ids = c.args.ids.now in
    let k = c.loop-id.id-index in
    let whole = ap (counted entries) (take_all k ids (omega (arith, c.loop-id-test.false))) in
    sym (is_within 100 (descendant_count entries (filter test entries))
    (omega (arith, whole, counted-all entries c.recall_distinct.ensures ids test are, c.loop-id.invariant test are)))
