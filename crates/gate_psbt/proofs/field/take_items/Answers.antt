use Rattle.std.proofs.Common.{[]}
use Rattle.std.proofs.lemmas.Result.{err_from_is_err_and}
use Rattle.gate_psbt.specs.Faults.{byte_part}
use Rattle.gate_psbt.specs.Fields.{items_at}
use Rattle.gate_psbt.proofs.Steps.{item_fails, item_next, items_end}
use Rattle.gate_psbt.proofs.field.take_items.Goals as goal

pub returns-in_err-item : goal.returns-in_err-item
returns-in_err-item c =
    let p = err_from_is_err_and c.from_residual.result c.from_residual.ensures.1 in
    rw (p.1, p.2) (item_fails (byte_part c.in_err-item.field-0.0) c.args.count c.loop.counter c.loop.witness c.loop.cursor (items_at c.args.count [] c.args.cursor.now) c.loop-test.true c.in_err-item.ensures.reads c.loop.invariant)

pub loop-preserved : goal.loop-preserved
loop-preserved c =
    rw c.in_ok-push.ensures.ok (item_next c.args.count c.loop.counter c.loop.witness c.loop.cursor c.in_ok-item.item.now c.take_counted.new.cursor (items_at c.args.count [] c.args.cursor.now) c.loop-test.true c.in_ok-item.ensures.reads c.loop.invariant)

pub returns : goal.returns
returns c = items_end c.args.count c.loop.counter c.loop.witness c.loop.cursor (items_at c.args.count [] c.args.cursor.now) c.loop-test.false c.loop.invariant
